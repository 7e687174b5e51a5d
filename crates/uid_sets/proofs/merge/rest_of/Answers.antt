-- A range more is high enough in part, or not at all.
use Rattle.std.proofs.Common.{◌+◌, get_or, arith}
use Rattle.uid_sets.specs.Rising.{floor_behind}
use Rattle.uid_sets.specs.UidSet.{IsRange}
use Rattle.uid_sets.specs.declared.uid.UidRange.{UidRange}
use Rattle.uid_sets.proofs.Ranges.{drop_here, RisesAbove-weaker, pushes}
use Rattle.uid_sets.proofs.merge.rest_of.Goals as goal

abbrev none : UidRange
none = record { low = 0; high = 0 }

pub loop-range-preserved : goal.loop-range-preserved
loop-range-preserved c =
    let before = c.loop-range.invariant in
    let range = get_or c.args.ranges.now c.loop-range.range-index none in
    let here = drop_here c.args.ranges.now c.loop-range.range-index none c.loop-range-test.true in
    let left = rw here at before.left in
    let kept : UidRange = record { low = c.max.result; high = range.high } in
    let fits : IsRange (floor_behind 0 c.loop-range.rest.items) kept =
    record { above = omega (arith, left.0); ordered = omega (arith, left.0); fits = left.0.fits } in
    let put = pushes c.loop-range.rest.items kept before.canonical fits in
    rw c.in_ok-push.ensures.items (record {
      canonical = put.canonical;
      left = rw put.floor left.1;
      members = λ uid.
          let new = put.members uid in
          let old = rw here at (before.members uid) in
          grind (arith, new.0, new.1, old.0, old.1);
    })

pub loop-range-preserved-then-range-low : goal.loop-range-preserved-then-range-low
loop-range-preserved-then-range-low c =
    let before = c.loop-range.invariant in
    let range = get_or c.args.ranges.now c.loop-range.range-index none in
    let here = drop_here c.args.ranges.now c.loop-range.range-index none c.loop-range-test.true in
    let left = rw here at before.left in
    record {
      canonical = before.canonical;
      left = RisesAbove-weaker _ (range.high + 1) _ (omega (arith, left.0)) left.1;
      members = λ uid.
          let old = rw here at (before.members uid) in
          grind (arith, old.0, old.1);
    }
