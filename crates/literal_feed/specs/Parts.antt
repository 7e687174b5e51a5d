-- How a part of a line goes on (RFC 9051, sections 2.2, 4.3 and 9), in the words of the frames of a stream.
use Rattle.std.specs.Prelude.{◌≡◌, ℕ, ◌+◌, ◌≤◌, List, [], ◌∷◌, ◌++◌, length}
use Rattle.std.specs.Str.Parse.{IsNumeral, digits_value}
use Rattle.mail_base.specs.Frames.{NoLf, header, PartFault}
use Rattle.literal_feed.specs.declared.part.Step.{Step}
use Rattle.literal_feed.specs.declared.part.Step.TheVariants as steps

-- the bytes of a part that count, if its last CR may be that of its CRLF
pub record Counts (part : List ℕ) (size : ℕ) : Type 0 where
  pub cr : (body : List ℕ) → part ≡ body ++ 13 ∷ [] → size ≡ length body
  pub other : ((body : List ℕ) → part ≡ body ++ 13 ∷ [] → ⊥) → size ≡ length part

-- the end of the part isn't there yet, and the line isn't too long so far
pub record IsOpenPart (used : ℕ) (tail : List ℕ) : Type 0 where
  pub plain : NoLf tail
  pub short : (size : ℕ) → Counts tail size → used + size ≤ 1048576

-- the part opens a literal, whose octets begin the rest
pub record IsLiteralPart (used : ℕ) (tail front digits rest : List ℕ) : Type 0 where
  pub text : tail ≡ (front ++ header digits) ++ 13 ∷ 10 ∷ rest
  pub plain : NoLf front
  pub number : IsNumeral 10 digits
  pub few : digits_value 10 digits ≤ 33554432
  pub short : used + length (front ++ header digits) ≤ 1048576

-- the part ends the line
pub record IsLastPart (used : ℕ) (tail last rest : List ℕ) : Type 0 where
  pub text : tail ≡ last ++ 13 ∷ 10 ∷ rest
  pub plain : NoLf last
  pub closed : (front digits : List ℕ) → IsNumeral 10 digits → last ≡ front ++ header digits → ⊥
  pub short : used + length last ≤ 1048576

-- the tail of a line, behind so many bytes of which so many count, goes on so; the line has this place
abbrev pub GoesOnAs : ℕ → ℕ → ℕ → List ℕ → Step → Type 0
GoesOnAs at part used tail steps.Open = IsOpenPart used tail
GoesOnAs at part used tail (steps.Last end) = (last : List ℕ) × (rest : List ℕ) × IsLastPart used tail last rest × (end ≡ part + length last)
GoesOnAs at part used tail (steps.Opens low octets) =
    (front : List ℕ) × (digits : List ℕ) × (rest : List ℕ) × IsLiteralPart used tail front digits rest
    × (low ≡ part + length (front ++ header digits) + 2) × (octets ≡ digits_value 10 digits)
GoesOnAs at part used tail (steps.Bad fault) = PartFault (at + part) used tail fault
