-- Strings (RFC 9051, section 9, quoted, literal, string and astring). Between quotes each byte above 127 stands as it is.
use Rattle.std.specs.Prelude.{◌≡◌, ◌≢◌, ◌⊎◌, ℕ, IsTrue, List, [], ◌∷◌, ◌++◌}
use Rattle.std.specs.List.{AllByRecursion, flat_map}
use Rattle.imap_model.specs.Parts.{Part, Literal, bytes}
use Rattle.imap_model.specs.Tagged.{is_astring_byte}

-- a character between quotes: a byte as it is, or one behind a backslash
pub data Character : Type 0 where
  Plain : (byte : ℕ) → Character
  Escaped : (byte : ℕ) → Character

-- NUL, LF, CR, `"` and `\` don't stand as they are; behind a backslash stands `"` or `\`
abbrev pub IsCharacter : Character → Type 0
IsCharacter (Plain byte) = (byte ≢ 0) × (byte ≢ 10) × (byte ≢ 13) × (byte ≢ 34) × (byte ≢ 92)
IsCharacter (Escaped byte) = (byte ≡ 34) ⊎ (byte ≡ 92)

-- how it is written
abbrev pub character_text : Character → List ℕ
character_text (Plain byte) = byte ∷ []
character_text (Escaped byte) = 92 ∷ byte ∷ []

-- the byte that it stands for
abbrev pub character_byte : Character → List ℕ
character_byte (Plain byte) = byte ∷ []
character_byte (Escaped byte) = byte ∷ []

-- the characters between quotes
abbrev pub quoted_text : List Character → List ℕ
quoted_text characters = 34 ∷ (flat_map character_text characters ++ 34 ∷ [])

-- the text is a quoted string of these characters
pub record IsQuoted (text : List ℕ) (characters : List Character) : Type 0 where
  pub lawful : AllByRecursion IsCharacter characters
  pub whole : text ≡ quoted_text characters

-- a quoted string that stands for these bytes
abbrev pub IsQuotedOf : List Part → List ℕ → Type 0
IsQuotedOf parts value = (text : List ℕ) × (characters : List Character) × IsQuoted text characters
    × (parts ≡ bytes text) × (value ≡ flat_map character_byte characters)

-- a literal of these octets
abbrev pub IsLiteralOf : List Part → List ℕ → Type 0
IsLiteralOf parts value = (digits : List ℕ) × (parts ≡ Literal digits value ∷ [])

-- a string that stands for these bytes
abbrev pub IsString : List Part → List ℕ → Type 0
IsString parts value = IsQuotedOf parts value ⊎ IsLiteralOf parts value

-- one or more bytes of an astring, as they are
pub record IsBare (parts : List Part) (value : List ℕ) : Type 0 where
  pub some : value ≢ []
  pub each : AllByRecursion (λ byte. IsTrue (is_astring_byte byte)) value
  pub whole : parts ≡ bytes value

-- an astring that stands for these bytes
abbrev pub IsAstring : List Part → List ℕ → Type 0
IsAstring parts value = IsString parts value ⊎ IsBare parts value

-- the text begins with a quoted string
abbrev pub BeginsQuoted : List ℕ → Type 0
BeginsQuoted text = (quoted : List ℕ) × (characters : List Character) × (rest : List ℕ) × IsQuoted quoted characters × (text ≡ quoted ++ rest)
