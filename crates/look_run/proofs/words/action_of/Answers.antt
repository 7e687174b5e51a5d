use Rattle.std.proofs.Common.{refl}
use Rattle.look_run.proofs.Numbers.{zero_number}
use Rattle.look_run.proofs.words.action_of.Goals as goal

pub returns-in_err-number-clause-none : goal.returns-in_err-number-clause-none
returns-in_err-number-clause-none c none n writes = c.in_err-number.ensures.none refl n writes.fits writes.is

pub returns-then-number-eq0-clause-none : goal.returns-then-number-eq0-clause-none
returns-then-number-eq0-clause-none c none n writes = zero_number c.args.text.now _ c.in_ok-number.ensures.some c.if-number-eq0.true n writes
