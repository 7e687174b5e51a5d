use Rattle.journal_core.proofs.Creation.{place_more}
use Rattle.journal_core.proofs.creating.place_behind.Goals as goal

pub loop-body-preserved : goal.loop-body-preserved
loop-body-preserved c = place_more c.args.bodies.now _ _ _ c.loop-body-test.true c.body-item.is c.as_slice.ensures _ _ _
    c.loop-body.invariant c.saturating_add.ensures c.saturating_add-place.ensures
