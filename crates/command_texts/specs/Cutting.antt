-- Where a part of a command's text ends (RFC 9051, sections 2.2.1 and 4.3): behind the octets that the part before it announced, at the first CRLF.
use Rattle.std.specs.Prelude.{◌≡◌, ℕ, List, [], ◌∷◌, ◌++◌, length}
use Rattle.std.specs.Str.Parse.{IsNumeral, digits_value}
use Rattle.mail_base.specs.Frames.{header}

abbrev pub crlf : List ℕ
crlf = 13 ∷ 10 ∷ []

-- the part ends with the header of a literal
pub record Announces (part digits : List ℕ) : Type 0 where
  pub front : List ℕ
  pub number : IsNumeral 10 digits
  pub text : part ≡ front ++ header digits ++ crlf

-- so many octets are due behind these parts
abbrev pub IsDue : List (List ℕ) → ℕ → Type 0
IsDue [] octets = octets ≡ 0
IsDue (part ∷ []) octets = ((digits : List ℕ) → Announces part digits → octets ≡ digits_value 10 digits)
    × (((digits : List ℕ) → Announces part digits → ⊥) → octets ≡ 0)
IsDue (part ∷ later) octets = IsDue later octets

-- no CRLF stands among the bytes
abbrev pub NoCrlf : List ℕ → Type 0
NoCrlf bytes = (front rest : List ℕ) → bytes ≡ front ++ 13 ∷ 10 ∷ rest → ⊥

-- the bytes are the part behind these parts
pub record IsPart (before : List (List ℕ)) (part : List ℕ) : Type 0 where
  pub octets : List ℕ
  pub line : List ℕ
  pub due : IsDue before (length octets)
  pub plain : NoCrlf line
  pub text : part ≡ octets ++ line ++ crlf

-- no whole part stands at the front of the bytes
abbrev pub NoPart : List (List ℕ) → List ℕ → Type 0
NoPart before bytes = (part rest : List ℕ) → IsPart before part → bytes ≡ part ++ rest → ⊥
