-- One range more is joined.
use Rattle.std.proofs.Common.{arith}
use Rattle.uid_sets.proofs.Ranges.{drop_here, RisesByLow-weaker}
use Rattle.uid_sets.proofs.join.joined.Goals as goal

pub loop-range-preserved : goal.loop-range-preserved
loop-range-preserved c =
    let joins = c.in_ok-join.ensures in
    let before = c.loop-range.invariant in
    let here = drop_here c.args.rising.now c.loop-range.range-index (record { low = 0; high = 0 }) c.loop-range-test.true in
    let left = rw here at before.left in
    record {
      canonical = joins.canonical;
      left = RisesByLow-weaker _ _ _ joins.rising left.2;
      members = λ uid.
          let new = joins.members uid in
          let old = rw here at (before.members uid) in
          grind (arith, new.0, new.1, old.0, old.1);
    }
