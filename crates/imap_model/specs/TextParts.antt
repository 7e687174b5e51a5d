-- The text of a status response, and where its code stands (RFC 9051, section 9, resp-text).
use Rattle.std.specs.Prelude.{◌≡◌, ◌≢◌, ◌⊎◌, ℕ, List, [], ◌∷◌, ◌++◌}
use Rattle.std.specs.List.{AllByRecursion}
use Rattle.imap_model.specs.declared.code.Code.{Code}
use Rattle.imap_model.specs.declared.code.Code.TheVariants as codings
use Rattle.imap_model.specs.Parts.{EndsInHeader}
use Rattle.imap_model.specs.Words.{Spaced}
use Rattle.imap_model.specs.Strings.{Character, IsQuoted, BeginsQuoted}
use Rattle.imap_model.specs.Codes.{IsCode}

-- no CR, LF or NUL, and no literal's header at the end
pub record IsText (text : List ℕ) : Type 0 where
  pub plain : AllByRecursion (λ byte. (byte ≢ 0) × (byte ≢ 10) × (byte ≢ 13)) text
  pub closed : EndsInHeader text → ⊥

-- a quoted string, or another byte
pub data Stretch : Type 0 where
  String : (characters : List Character) → Stretch
  Single : (byte : ℕ) → Stretch

-- The text is these stretches, then its first `]` outside quoted strings, and then this rest. A `"` that begins no quoted
-- string is a byte like others.
abbrev pub Encloses : List Stretch → List ℕ → List ℕ → List ℕ → Type 0
Encloses [] text inner rest = (inner ≡ []) × (text ≡ 93 ∷ rest)
Encloses (String characters ∷ stretches) text inner rest =
    (quoted : List ℕ) × (later : List ℕ) × (behind : List ℕ) × IsQuoted quoted characters
    × (text ≡ quoted ++ later) × (inner ≡ quoted ++ behind) × Encloses stretches later behind rest
Encloses (Single byte ∷ stretches) text inner rest =
    (later : List ℕ) × (behind : List ℕ) × (byte ≢ 93) × (BeginsQuoted text → ⊥)
    × (text ≡ byte ∷ later) × (inner ≡ byte ∷ behind) × Encloses stretches later behind rest

-- this stands between the `[` that begins the text and its first `]` outside quoted strings
abbrev pub HasInner : List ℕ → List ℕ → Type 0
HasInner text inner = (later : List ℕ) × (stretches : List Stretch) × (rest : List ℕ) × (text ≡ 91 ∷ later) × Encloses stretches later inner rest

-- the code of the text: none where the text has no brackets at its front
abbrev pub HasCode : List ℕ → Code → Type 0
HasCode text code =
    ((code ≡ codings.None) × ((inner : List ℕ) → HasInner text inner → ⊥))
    ⊎ ((inner : List ℕ) × HasInner text inner × IsCode inner code)

-- what stands behind the word of a status response: nothing, or spaces and a text
abbrev pub IsTextPart : List ℕ → Code → Type 0
IsTextPart rest code =
    ((rest ≡ []) × (code ≡ codings.None))
    ⊎ ((text : List ℕ) × Spaced rest text × IsText text × HasCode text code)
