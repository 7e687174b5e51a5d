-- One mailbox more.
use Rattle.std.proofs.Common.{arith}
use Rattle.record_codec.proofs.RestatedSizes.{box_more, well_at}
use Rattle.record_codec.proofs.restated.boxes_size.Goals as goal

pub box_size-size-requires : goal.box_size-size-requires
box_size-size-requires c =
    well_at c.args.boxes.now c.loop-known.known-index c.known-item.result c.requires.well c.loop-known-test.true c.known-item.is

pub loop-known-preserved : goal.loop-known-preserved
loop-known-preserved c = record {
  value = box_more c.args.boxes.now c.loop-known.known-index c.known-item.result c.loop-known.size _ c.loop-known-test.true
      c.known-item.is c.loop-known.invariant.value c.box_size-size.ensures.value;
  most = omega (arith, c.loop-known.invariant.most, c.box_size-size.ensures.most);
}
