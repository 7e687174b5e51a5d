use Rattle.std.proofs.Common.{◌↔◌, ◌⊎◌, ℕ, drop}
use Rattle.uid_sets.specs.UidSet.{Member, IsCanonical}
use Rattle.imap_response.specs.Sets.{IsIn}
use Rattle.imap_response.proofs.search.added.Given as goal

abbrev pub invariant-loop-number : goal.invariant-loop-number
invariant-loop-number l = record {
  canonical : IsCanonical l.set;
  members : (uid : ℕ) → (Member l.set uid ⊎ IsIn (drop l.number-index l.numbers) uid) ↔ IsIn l.numbers uid;
}
