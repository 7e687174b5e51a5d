-- Untagged lines that this client passes over (RFC 9051, section 9, response-data).
use Rattle.std.specs.Prelude.{◌≡◌, ◌≢◌, ◌⊎◌, ℕ, Bool, false, List, [], ◌∷◌, ◌++◌, codes}
use Rattle.std.specs.List.{AllByRecursion, list_any}
use Rattle.std.specs.Str.{str_eq_ignore_ascii_case}
use Rattle.std.specs.Str.Parse.{IsNumeral}
use Rattle.mail_base.specs.Frames.{header}
use Rattle.imap_model.specs.Parts.{Part, Byte, Literal, bytes}
use Rattle.imap_model.specs.Words.{IsWord, Stops, IsUntagged, Begins, Spaced}

-- the first words of the untagged lines that have a meaning here
abbrev pub known_words : List (List ℕ)
known_words = codes "OK" ∷ codes "NO" ∷ codes "BAD" ∷ codes "BYE" ∷ codes "PREAUTH" ∷ codes "CAPABILITY" ∷ codes "ENABLED"
    ∷ codes "VANISHED" ∷ codes "SEARCH" ∷ codes "ESEARCH" ∷ []

abbrev pub is_known_word : List ℕ → Bool
is_known_word word = list_any (λ known. str_eq_ignore_ascii_case known word) known_words

-- the second word is this one
abbrev pub GoesOnWith : List ℕ → List ℕ → Type 0
GoesOnWith later name = (behind : List ℕ) × (rest : List ℕ) × Spaced later behind × Begins behind name rest

-- a word that begins none of the lines that have a meaning here: a number that neither EXISTS nor FETCH follows, or another
abbrev pub IsStrange : List ℕ → List ℕ → Type 0
IsStrange word later =
    (IsNumeral 10 word × (GoesOnWith later (codes "EXISTS") → ⊥) × (GoesOnWith later (codes "FETCH") → ⊥))
    ⊎ ((IsNumeral 10 word → ⊥) × (is_known_word word ≡ false))

-- outside literals no CR, LF or NUL stands
abbrev pub IsQuiet : Part → Type 0
IsQuiet (Byte byte) = (byte ≢ 0) × (byte ≢ 10) × (byte ≢ 13)
IsQuiet (Literal digits octets) = Unit {0}

-- the parts end with `{`, digits and `}`
abbrev pub EndInHeader : List Part → Type 0
EndInHeader parts = (front : List Part) × (digits : List ℕ) × IsNumeral 10 digits × (parts ≡ front ++ bytes (header digits))

-- the line, of these parts, has no meaning here
pub record IsOther (text : List ℕ) (parts : List Part) : Type 0 where
  pub word : List ℕ
  pub later : List ℕ
  pub untagged : IsUntagged text (word ++ later)
  pub is_word : IsWord word
  pub ends : Stops later
  pub strange : IsStrange word later
  pub quiet : AllByRecursion IsQuiet parts
  pub closed : EndInHeader parts → ⊥
