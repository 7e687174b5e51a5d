-- What a line is made of (RFC 9051, sections 2.2 and 4.3): bytes, and literals, each of which is one part.
use Rattle.std.specs.Prelude.{◌≡◌, ℕ, ◌+◌, List, [], ◌∷◌, ◌++◌, length, map}
use Rattle.std.specs.List.{AllByRecursion, flat_map}
use Rattle.std.specs.Str.Parse.{IsNumeral}
use Rattle.mail_base.specs.declared.span.Span.{Span}
use Rattle.mail_base.specs.declared.frame.Frame.{Frame}
use Rattle.mail_base.specs.Frames.{header}

pub data Part : Type 0 where
  Byte : (byte : ℕ) → Part
  Literal : (digits octets : List ℕ) → Part

-- the bytes of a part: a literal's octets stand behind its header and a CRLF
abbrev pub part_text : Part → List ℕ
part_text (Byte byte) = byte ∷ []
part_text (Literal digits octets) = header digits ++ 13 ∷ 10 ∷ octets

-- a header has digits; that they count the octets is the feed's promise
abbrev pub IsPart : Part → Type 0
IsPart (Byte byte) = Unit {0}
IsPart (Literal digits octets) = IsNumeral 10 digits

-- where the octets of the literals stand, if the first part begins at this place
abbrev pub literals_from : ℕ → List Part → List Span
literals_from at [] = []
literals_from at (Byte byte ∷ parts) = literals_from (at + 1) parts
literals_from at (Literal digits octets ∷ parts) =
    let low = at + length (header digits) + 2 in
    let high = low + length octets in
    record { low = low; high = high } ∷ literals_from high parts

-- The frame is made of these parts. Places that the frame names behind those of its last literal mean nothing.
pub record IsMadeOf (frame : Frame) (parts : List Part) : Type 0 where
  pub lawful : AllByRecursion IsPart parts
  pub text : frame.bytes ≡ flat_map part_text parts
  pub unused : List Span
  pub literals : frame.literals ≡ literals_from 0 parts ++ unused

-- a text without literals
abbrev pub bytes : List ℕ → List Part
bytes text = map Byte text

-- the text ends as a part of a line does that opens a literal: with `{`, digits and `}`
abbrev pub EndsInHeader : List ℕ → Type 0
EndsInHeader text = (front : List ℕ) × (digits : List ℕ) × IsNumeral 10 digits × (text ≡ front ++ header digits)
