-- What is joined is canonical, and with what is left holds what the whole list holds.
use Rattle.std.proofs.Common.{◌↔◌, ◌⊎◌, ℕ, drop}
use Rattle.uid_sets.specs.Rising.{last_low, RisesByLow}
use Rattle.uid_sets.specs.UidSet.{Member, IsCanonical}
use Rattle.uid_sets.proofs.join.joined.Given as goal

abbrev pub invariant-loop-range : goal.invariant-loop-range
invariant-loop-range l = record {
  canonical : IsCanonical l.ranges.items;
  left : RisesByLow (last_low l.ranges.items) (drop l.range-index l.rising);
  members : (uid : ℕ) → (Member l.ranges.items uid ⊎ Member (drop l.range-index l.rising) uid) ↔ Member l.rising uid;
}
