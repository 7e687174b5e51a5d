-- The front of a stand-in's text, with another number of octets in the header that it ends with (RFC 9051, section 4.3).
use Rattle.std.specs.Prelude.{◌≡◌, ◌⊎◌, ℕ, List, [], ◌∷◌, ◌++◌, decimal}
use Rattle.mail_base.specs.Frames.{header}
use Rattle.imap_model.specs.CommandParts.{crlf}

-- a part that ends with a header of one digit
abbrev pub digit_part : List ℕ → ℕ → List ℕ
digit_part begun digit = begun ++ 123 ∷ digit ∷ 125 ∷ 13 ∷ 10 ∷ []

-- the digit is 0 or 1
abbrev pub IsDigit : ℕ → Type 0
IsDigit digit = (digit ≡ 48) ⊎ (digit ≡ 49)

-- the part has no such header at its end
abbrev pub HasNone : List ℕ → Type 0
HasNone part = (begun : List ℕ) (digit : ℕ) → IsDigit digit → part ≡ digit_part begun digit → ⊥

-- the part with this number in that header, or the part as it is where it has none
pub data Announcing (octets : ℕ) (part written : List ℕ) : Type 0 where
  as_it_is : HasNone part → written ≡ part → Announcing octets part written
  announced : (begun : List ℕ) (digit : ℕ) → IsDigit digit → part ≡ digit_part begun digit →
      written ≡ begun ++ (header (decimal octets) ++ crlf) → Announcing octets part written

-- the parts are all but the last one of a text, with this number in the header at their end
pub record IsRenumbered (octets : ℕ) (text parts : List (List ℕ)) : Type 0 where
  pub before : List (List ℕ)
  pub part : List ℕ
  pub final : List ℕ
  pub written : List ℕ
  pub whole : text ≡ before ++ part ∷ final ∷ []
  pub front : parts ≡ before ++ written ∷ []
  pub announcing : Announcing octets part written
