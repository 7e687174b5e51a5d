use Rattle.record_codec.proofs.Counts.{few_at}
use Rattle.record_codec.proofs.sizes.rows_size.Goals as goal

pub row_size-size-requires : goal.row_size-size-requires
row_size-size-requires c = few_at c.args.rows.now c.loop-uid.uid-index c.loop-uid-item.result c.requires.flags c.loop-uid-test.true c.loop-uid-item.is
