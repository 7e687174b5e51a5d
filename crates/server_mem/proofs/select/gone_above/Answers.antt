use Rattle.std.proofs.Common.{◌∙◌, sym, ap}
use Rattle.server_mem.proofs.Vanishing.{went_above, went_below}
use Rattle.server_mem.proofs.select.gone_above.Goals as goal
use Rattle.server_mem.proofs.select.gone_above.Goals.{then-is_above+in_ok-push, else-is_above}

pub loop-one-preserved : goal.loop-one-preserved
loop-one-preserved c = elim c.if-is_above.branch [
  | then-is_above+in_ok-push w ↦ ap (λ v. v.items) w.uids-is ∙ w.in_ok-push.ensures.items
      ∙ went_above c.args.modseq c.loop-one.one-index c.args.gone.now c.loop-one.uids.items c.one-item.result c.loop-one-test.true
      c.one-item.is (sym w.if-is_above.ensures) c.loop-one.invariant
  | else-is_above w ↦ ap (λ v. v.items) w.uids-is
      ∙ went_below c.args.modseq c.loop-one.one-index c.args.gone.now c.loop-one.uids.items c.one-item.result c.loop-one-test.true
      c.one-item.is (sym w.if-is_above.ensures) c.loop-one.invariant
]
