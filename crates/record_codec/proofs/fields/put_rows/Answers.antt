use Rattle.std.proofs.Common.{add-one, arith}
use Rattle.std.proofs.lemmas.Grind.{common_steps}
use Rattle.record_codec.specs.Spelling.{IsKeptRow}
use Rattle.record_codec.proofs.Counts.{few_at, all_more}
use Rattle.record_codec.proofs.fields.put_rows.Goals as goal

pub put_row-requires : goal.put_row-requires
put_row-requires c = few_at c.args.rows.now c.loop-uid.uid-index c.loop-uid-item.result c.requires c.loop-uid-test.true c.loop-uid-item.is

pub loop-uid-preserved : goal.loop-uid-preserved
loop-uid-preserved c = record {
  wrote = grind (arith, common_steps);
  kept = rw add-one (all_more IsKeptRow c.args.rows.now c.loop-uid.uid-index c.loop-uid-item.result c.loop-uid-test.true c.loop-uid-item.is
      c.loop-uid.invariant.kept c.in_ok-put_row.ensures.kept);
}
