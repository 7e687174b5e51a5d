-- The longest run in front of a list is found by the first element that isn't of it.
use Rattle.std.proofs.Common.{◌≡◌, ℕ, ◌<◌, Bool, true, false, List, ◌∷◌, length, Option, Some, None, get_or, refl, sym, arith}
use Rattle.std.proofs.lemmas.List.Sums.{prefix_len_is}
use Rattle.std.specs.Prelude.{unwrap_or, IfSome}
use Rattle.std.specs.List.{prefix_len}

-- the first element that isn't of the run
abbrev pub IsStop : (ℕ → Bool) → List ℕ → ℕ → Type 0
IsStop test xs i = (i < length xs) × (test (get_or xs i 0) ≡ false) × ((k : ℕ) → k < i → test (get_or xs k 0) ≡ true)

pub run_is : (test : ℕ → Bool) (xs : List ℕ) (found : Option ℕ) → (found ≡ None → (k : ℕ) → k < length xs → test (get_or xs k 0) ≡ true) →
    IfSome found (IsStop test xs) → unwrap_or found (length xs) ≡ prefix_len test xs
run_is test xs None all first = sym (prefix_len_is test xs (length xs) 0 (omega arith) (all refl) (λ lt. absurd (omega (arith, lt))))
run_is test xs (Some i) all first = sym (prefix_len_is test xs i 0 (omega (arith, first.0)) first.2 (λ lt. first.1))

-- what passes in front makes a run
pub run_some : (test : ℕ → Bool) (xs : List ℕ) (b : ℕ) (more : List ℕ) → xs ≡ b ∷ more → test b ≡ true → 0 < prefix_len test xs
run_some test xs b more is passes = rw (is, passes) (omega arith)
