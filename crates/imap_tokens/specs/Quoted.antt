-- Quoted strings (RFC 9051, section 9, quoted and QUOTED-CHAR), in which this client takes each byte above 127 as it is.
use Rattle.std.specs.Prelude.{◌≡◌, ◌≢◌, ◌⊎◌, ℕ, ◌+◌, List, [], ◌∷◌, ◌++◌, length}
use Rattle.std.specs.List.{AllByRecursion, flat_map}

-- a character of a quoted string: a byte as it is, or one behind a backslash
pub data QuotedChar : Type 0 where
  Plain : (byte : ℕ) → QuotedChar
  Escaped : (byte : ℕ) → QuotedChar

-- NUL, LF, CR, `"` and `\` don't stand as they are; behind a backslash stands `"` or `\`
abbrev pub IsQuotedChar : QuotedChar → Type 0
IsQuotedChar (Plain byte) = (byte ≢ 0) × (byte ≢ 10) × (byte ≢ 13) × (byte ≢ 34) × (byte ≢ 92)
IsQuotedChar (Escaped byte) = (byte ≡ 34) ⊎ (byte ≡ 92)

-- its bytes
abbrev pub char_text : QuotedChar → List ℕ
char_text (Plain byte) = byte ∷ []
char_text (Escaped byte) = 92 ∷ byte ∷ []

-- the bytes between the quotes
abbrev pub inner_text : List QuotedChar → List ℕ
inner_text chars = flat_map char_text chars

-- the text begins with a quoted string of these characters, and goes on so
pub record IsQuoted (text : List ℕ) (chars : List QuotedChar) (rest : List ℕ) : Type 0 where
  pub lawful : AllByRecursion IsQuotedChar chars
  pub whole : text ≡ 34 ∷ (inner_text chars ++ 34 ∷ rest)

-- the text begins with a quoted string of so many bytes
abbrev pub BeginsQuoted : List ℕ → ℕ → Type 0
BeginsQuoted text size = (chars : List QuotedChar) × (rest : List ℕ) × IsQuoted text chars rest × (size ≡ length (inner_text chars) + 2)

-- it begins with none
abbrev pub NoQuoted : List ℕ → Type 0
NoQuoted text = (size : ℕ) → BeginsQuoted text size → ⊥
