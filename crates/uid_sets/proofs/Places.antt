-- The first place of a mark.
use Rattle.std.proofs.Common.{◌≡◌, ℕ, ◌<◌, Bool, List, Some, None, length, position, arith}
use Rattle.std.specs.List.{position_or_len}
use Rattle.std.proofs.lemmas.List.Sums.{prefix_len-le-length}
use Rattle.std.proofs.lemmas.Bool.Decides.{nat_tests}

pub position_found : (p : ℕ → Bool) (xs : List ℕ) (place : ℕ) → position p xs ≡ Some place → (position_or_len p xs ≡ place) × (position_or_len p xs < length xs)
position_found p xs place found = grind (arith, nat_tests)

pub position_missing : (p : ℕ → Bool) (xs : List ℕ) → position p xs ≡ None → position_or_len p xs ≡ length xs
position_missing p xs missing = grind (arith, nat_tests, prefix_len-le-length)
