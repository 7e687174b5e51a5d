use Rattle.journal_core.specs.Sides.{header_of, version_written}
use Rattle.journal_core.proofs.Creation.{bytes_more, item_fits}
use Rattle.journal_core.proofs.creating.side_bytes.Goals as goal

pub loop-body-preserved : goal.loop-body-preserved
loop-body-preserved c =
    bytes_more c.args.bodies.now _ _ _ c.loop-body-test.true c.body-item.is c.as_slice.ensures (header_of version_written c.args.generation) _ _
    c.loop-body.invariant c.in_ok-push_record.ensures

pub push_record-requires : goal.push_record-requires
push_record-requires c = record { fits = item_fits c.args.bodies.now _ _ _ c.loop-body-test.true c.body-item.is c.as_slice.ensures c.requires.sizes }
