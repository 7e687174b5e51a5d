-- The lines that a server writes (RFC 9051, sections 2.2 and 4.3), however long they are: what is too long is for the client to
-- refuse.
use Rattle.std.specs.Prelude.{◌≡◌, ℕ, List, ◌++◌, length}
use Rattle.std.specs.List.{AllByRecursion}
use Rattle.std.specs.Str.Parse.{IsNumeral, digits_value}
use Rattle.mail_base.specs.Frames.{NoLf, header, Opening}

-- the header of the literal says how many octets stand behind it
pub record IsOpened (o : Opening) : Type 0 where
  pub plain : NoLf o.front
  pub number : IsNumeral 10 o.digits
  pub octets : digits_value 10 o.digits ≡ length o.octets

-- the part opens no literal
abbrev pub IsClosed : List ℕ → Type 0
IsClosed last = (front digits : List ℕ) → IsNumeral 10 digits → last ≡ front ++ header digits → ⊥

-- a whole line of any size: parts that open literals, and a last part that opens none
pub record IsToldLine (openings : List Opening) (last : List ℕ) : Type 0 where
  pub opened : AllByRecursion IsOpened openings
  pub plain : NoLf last
  pub closed : IsClosed last
