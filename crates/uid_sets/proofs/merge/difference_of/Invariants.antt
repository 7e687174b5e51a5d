-- What is put and what is left to do are the difference, and the holes passed by are behind what is left.
use Rattle.std.proofs.Common.{◌↔◌, ◌⊎◌, ◌≤◌, ℕ, drop, length}
use Rattle.uid_sets.specs.Rising.{floor_behind}
use Rattle.uid_sets.specs.UidSet.{Member, IsCanonical, RisesAbove}
use Rattle.uid_sets.proofs.merge.difference_of.Given as goal

abbrev pub invariant-loop-range : goal.invariant-loop-range
invariant-loop-range l = record {
  within : l.passed ≤ length l.taken;
  canonical : IsCanonical l.ranges.items;
  left : RisesAbove (floor_behind 0 l.ranges.items) (drop l.range-index l.kept);
  skipped : (uid : ℕ) → Member (drop l.range-index l.kept) uid → Member l.taken uid ↔ Member (drop l.passed l.taken) uid;
  members : (uid : ℕ) → (Member l.ranges.items uid ⊎ (Member (drop l.range-index l.kept) uid × ¬ Member l.taken uid))
      ↔ (Member l.kept uid × ¬ Member l.taken uid);
}
