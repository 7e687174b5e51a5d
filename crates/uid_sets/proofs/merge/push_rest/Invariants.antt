-- Below low what is kept of the range stands already, and from low on the holes so far hold nothing.
use Rattle.std.proofs.Common.{◌≡◌, ◌↔◌, ◌⊎◌, ◌<◌, ◌≤◌, ℕ, drop}
use Rattle.uid_sets.specs.Rising.{floor_behind}
use Rattle.uid_sets.specs.UidSet.{Member, IsCanonical}
use Rattle.uid_sets.proofs.merge.push_rest.Given as goal

abbrev pub invariant-loop-hole : goal.invariant-loop-hole
invariant-loop-hole l = record {
  count : l.passed ≡ l.hole-index;
  above : l.range.low ≤ l.low;
  below : l.low ≤ l.range.high;
  canonical : IsCanonical l.ranges.items;
  floor : floor_behind 0 l.ranges.items < l.low;
  left : IsCanonical (drop l.hole-index l.taken);
  members : (uid : ℕ) → Member l.ranges.items uid
      ↔ (Member l.fn.ranges.items uid ⊎ ((l.range.low ≤ uid) × (uid < l.low) × ¬ Member l.taken uid));
  skipped : (uid : ℕ) → l.low ≤ uid → Member l.taken uid ↔ Member (drop l.hole-index l.taken) uid;
}
