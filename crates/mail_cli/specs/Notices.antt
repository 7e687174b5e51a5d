-- Which words ask for a notice.
use Rattle.std.specs.Prelude.{◌≡◌, ◌⊎◌, ℕ, List, [], ◌∷◌, codes}

-- `--help` alone
abbrev pub AsksHelp : List (List ℕ) → Type 0
AsksHelp words = words ≡ codes "--help" ∷ []

-- `--version` alone
abbrev pub AsksVersion : List (List ℕ) → Type 0
AsksVersion words = words ≡ codes "--version" ∷ []

-- the words ask for one of these two texts, and this is it
abbrev pub OneOf : List (List ℕ) → List ℕ → List ℕ → List ℕ → Type 0
OneOf words help version text = (AsksHelp words × (text ≡ help)) ⊎ (AsksVersion words × (text ≡ version))
