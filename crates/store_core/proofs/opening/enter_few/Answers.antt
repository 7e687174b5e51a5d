use Rattle.std.proofs.Common.{rules}
use Rattle.store_core.specs.Mail.{mail}
use Rattle.store_core.proofs.Entering.{entered, place_on, undue_here}
use Rattle.store_core.proofs.opening.enter_few.Goals as goal

pub loop-index-preserved : goal.loop-index-preserved
loop-index-preserved c = record {
  entered = entered mail _ _ _ _ c.body-body.ensures _ _ _ c.loop-index.invariant.entered c.in_ok-enter_body.ensures.value;
  made = λ made. c.in_ok-enter_body.ensures.made (c.loop-index.invariant.made made);
  there = place_on mail c.args.version _ _ _ c.body-body.ensures _ _ _ _ c.loop-index.invariant.there c.saturating_add.ensures c.saturating_add-place.ensures;
}

pub returns-in_err-enter_body-clause-broken : goal.returns-in_err-enter_body-clause-broken
returns-in_err-enter_body-clause-broken c why is =
    let b = c.enter_body.ensures.broken why (search rules) in
    undue_here mail _ _ _ _ c.body-body.ensures _ _ _ _ why c.loop-index.invariant.entered c.loop-index.invariant.there b.1 b.0
