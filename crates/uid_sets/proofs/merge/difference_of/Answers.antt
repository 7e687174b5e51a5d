-- One range more has lost what is taken of it.
use Rattle.std.proofs.Common.{inr, ◌+◌, get_or, arith}
use Rattle.std.proofs.lemmas.List.{take_rest, drop-drop, length-drop}
use Rattle.uid_sets.specs.declared.uid.UidRange.{UidRange}
use Rattle.uid_sets.proofs.Ranges.{drop_here, RisesAbove-weaker, RisesAbove-drop, Member-above}
use Rattle.uid_sets.proofs.Differences.{range_done}
use Rattle.uid_sets.proofs.merge.difference_of.Goals as goal

abbrev none : UidRange
none = record { low = 0; high = 0 }

pub push_rest-requires-clause-taken : goal.push_rest-requires-clause-taken
push_rest-requires-clause-taken c =
    rw (take_rest c.args.taken.now c.loop-range.passed) (RisesAbove-drop 0 c.args.taken.now c.loop-range.passed c.requires.taken)

pub loop-range-preserved : goal.loop-range-preserved
loop-range-preserved c =
    let taken = c.args.taken.now in
    let before = c.loop-range.invariant in
    let range = get_or c.args.kept.now c.loop-range.range-index none in
    let here = drop_here c.args.kept.now c.loop-range.range-index none c.loop-range-test.true in
    let left = rw here at before.left in
    let put = rw (take_rest taken c.loop-range.passed) at c.in_ok-passed.ensures in
    let onward = drop-drop c.in_ok-passed.field-0 c.loop-range.passed taken in
    record {
      within = (let within = rw length-drop at put.within in omega (arith, before.within));
      canonical = put.canonical;
      left = RisesAbove-weaker _ (range.high + 1) _ put.floor left.1;
      skipped = λ uid member.
          let above = Member-above (range.high + 1) _ uid left.1 member in
          let same = before.skipped uid (rw here (inr member)) in
          let passed = rw onward at (put.passed uid (omega arith)) in
          grind (arith, same.0, same.1, passed.0, passed.1);
      members = λ uid.
          let old = rw here at (before.members uid) in
          let same = rw here at (before.skipped uid) in
          range_done _ _ _ _ _ _ _ (put.members uid) old same;
    }
