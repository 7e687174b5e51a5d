-- What is put, and what of the ranges left is high enough, are what is asked for.
use Rattle.std.proofs.Common.{◌↔◌, ◌⊎◌, ◌≤◌, ℕ, drop}
use Rattle.uid_sets.specs.Rising.{floor_behind}
use Rattle.uid_sets.specs.UidSet.{Member, IsCanonical, RisesAbove}
use Rattle.uid_sets.proofs.merge.rest_of.Given as goal

abbrev pub invariant-loop-range : goal.invariant-loop-range
invariant-loop-range l = record {
  canonical : IsCanonical l.rest.items;
  left : RisesAbove (floor_behind 0 l.rest.items) (drop l.range-index l.ranges);
  members : (uid : ℕ) → (Member l.rest.items uid ⊎ (Member (drop l.range-index l.ranges) uid × (l.low ≤ uid)))
      ↔ (Member l.ranges uid × (l.low ≤ uid));
}
