use Rattle.mail_base.proofs.Stopping.{fits_here, exceeds_here}
use Rattle.mail_base.proofs.number.read_up_to.Goals as goal

pub returns-then-number-largest : goal.returns-then-number-largest
returns-then-number-largest c =
    exceeds_here _ _ _ _ c.loop-at.invariant.0 c.loop-at.invariant.1 c.loop-at-test.true c.if-not-is_ascii_digit.ensures.cases c.requires.0
    c.if-number-largest.true

pub loop-at-preserved : goal.loop-at-preserved
loop-at-preserved c =
    fits_here _ _ _ _ c.loop-at.invariant.0 c.loop-at.invariant.1 c.loop-at-test.true c.if-not-is_ascii_digit.ensures.cases c.requires.0
    c.if-not-is_ascii_digit.ensures.bound c.if-number-largest.false
