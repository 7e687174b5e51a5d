-- What is left rises above the floor exactly where all the ranges are a set's list.
use Rattle.std.proofs.Common.{◌↔◌, ◌≤◌, ◌^◌, drop}
use Rattle.uid_sets.specs.UidSet.{IsCanonical, RisesAbove}
use Rattle.uid_sets.proofs.canonical.is_canonical.Given as goal

abbrev pub invariant-loop-range : goal.invariant-loop-range
invariant-loop-range l = record {
  fits : l.floor ≤ 2 ^ 32;
  left : RisesAbove l.floor (drop l.range-index l.ranges) ↔ IsCanonical l.ranges;
}
