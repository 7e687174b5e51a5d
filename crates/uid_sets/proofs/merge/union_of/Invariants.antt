-- What is joined is canonical, and with what is left of both lists holds what they hold.
use Rattle.std.proofs.Common.{◌↔◌, ◌⊎◌, ◌+◌, ◌-◌, ◌≤◌, ℕ, length, drop}
use Rattle.uid_sets.specs.Rising.{last_low, RisesByLow}
use Rattle.uid_sets.specs.UidSet.{Member, IsCanonical}
use Rattle.uid_sets.proofs.merge.union_of.Given as goal

abbrev pub invariant-loop-i : goal.invariant-loop-i
invariant-loop-i l = record {
  within_left : l.i ≤ length l.left;
  within_right : l.j ≤ length l.right;
  canonical : IsCanonical l.ranges.items;
  left : RisesByLow (last_low l.ranges.items) (drop l.i l.left);
  right : RisesByLow (last_low l.ranges.items) (drop l.j l.right);
  members : (uid : ℕ) → (Member l.ranges.items uid ⊎ (Member (drop l.i l.left) uid ⊎ Member (drop l.j l.right) uid))
      ↔ (Member l.left uid ⊎ Member l.right uid);
}

abbrev pub decreases-loop-i : goal.decreases-loop-i
decreases-loop-i l = (length l.left - l.i) + (length l.right - l.j)
