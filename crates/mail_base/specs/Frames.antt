-- The frames of a stream: lines with their literals (RFC 9051, sections 2.2, 4.3 and 9). All is said of the whole stream.
use Rattle.std.specs.Prelude.{◌≡◌, ◌≢◌, ℕ, ◌+◌, ◌-◌, ◌<◌, ◌≤◌, List, [], ◌∷◌, ◌++◌, ◌^◌, length, min}
use Rattle.std.specs.List.{AllByRecursion, flat_map}
use Rattle.std.specs.Str.Parse.{IsNumeral, digits_value}
use Rattle.mail_base.specs.declared.span.Span.{Span}
use Rattle.mail_base.specs.declared.frame.Frame.{Frame}
use Rattle.mail_base.specs.declared.frame.FeedFault.{FeedFault}
use Rattle.mail_base.specs.declared.frame.FeedFault.TheVariants as faults

-- a place as it is told
abbrev pub told : ℕ → ℕ
told place = min place (2 ^ 64 - 1)

-- no LF stands among the bytes
abbrev pub NoLf : List ℕ → Type 0
NoLf bytes = AllByRecursion (λ byte. byte ≢ 10) bytes

-- the header of a literal: `{`, digits and `}`
abbrev pub header : List ℕ → List ℕ
header digits = 123 ∷ (digits ++ 125 ∷ [])

-- a part of a line that ends with a literal's header, and the octets of that literal
pub record Opening : Type 0 where
  pub front : List ℕ
  pub digits : List ℕ
  pub octets : List ℕ

-- the part, without its CRLF
abbrev pub part_of : Opening → List ℕ
part_of o = o.front ++ header o.digits

-- the part, its CRLF and the octets
abbrev pub opening_text : Opening → List ℕ
opening_text o = part_of o ++ 13 ∷ 10 ∷ o.octets

-- there are as many octets as the header says, and not too many; the first digits may be 0, and `{}` is no header
pub record IsOpening (o : Opening) : Type 0 where
  pub plain : NoLf o.front
  pub number : IsNumeral 10 o.digits
  pub octets : digits_value 10 o.digits ≡ length o.octets
  pub few : length o.octets ≤ 33554432

-- how many bytes count to the limit of a line: neither octets of literals nor CRLFs do
abbrev pub counted : List Opening → ℕ
counted [] = 0
counted (o ∷ os) = length (part_of o) + counted os

-- a whole line: parts that open literals, and a last part that opens none
pub record IsLine (openings : List Opening) (last : List ℕ) : Type 0 where
  pub opened : AllByRecursion IsOpening openings
  pub plain : NoLf last
  pub closed : (front digits : List ℕ) → IsNumeral 10 digits → last ≡ front ++ header digits → ⊥
  pub short : counted openings + length last ≤ 1048576

-- a line's bytes, without its last CRLF
abbrev pub line_text : List Opening → List ℕ → List ℕ
line_text openings last = flat_map opening_text openings ++ last

-- the stream begins with this line, and goes on so
pub record BeginsWith (stream : List ℕ) (openings : List Opening) (last rest : List ℕ) : Type 0 where
  pub line : IsLine openings last
  pub whole : stream ≡ line_text openings last ++ 13 ∷ 10 ∷ rest

-- where the octets of the literals stand, if the first part begins at this place
abbrev pub literals_from : ℕ → List Opening → List Span
literals_from at [] = []
literals_from at (o ∷ os) =
    let low = at + length (part_of o) + 2 in
    let high = low + length o.octets in
    record { low = low; high = high } ∷ literals_from high os

-- the stream, whose first byte has this place, begins with this frame, and goes on so
abbrev pub IsNext : ℕ → List ℕ → Frame → List ℕ → Type 0
IsNext at stream frame rest =
    (openings : List Opening) × (last : List ℕ) × BeginsWith stream openings last rest
    × (frame.bytes ≡ line_text openings last) × (frame.literals ≡ literals_from 0 openings) × (frame.at ≡ told at)

-- no whole frame stands at the front
abbrev pub NoWhole : List ℕ → Type 0
NoWhole stream = (openings : List Opening) (last rest : List ℕ) → BeginsWith stream openings last rest → ⊥

-- the stream begins with these frames, and goes on so
abbrev pub AreFrames : ℕ → List ℕ → List Frame → List ℕ → Type 0
AreFrames at stream [] rest = stream ≡ rest
AreFrames at stream (f ∷ fs) rest =
    (later : List ℕ) × IsNext at stream f later × AreFrames (at + length f.bytes + 2) later fs rest

-- An LF ends the part, and no CR stands before it in the part.
pub record HasBareLf (used : ℕ) (tail part rest : List ℕ) : Type 0 where
  pub text : tail ≡ part ++ 10 ∷ rest
  pub plain : NoLf part
  pub bare : (front : List ℕ) → part ≡ front ++ 13 ∷ [] → ⊥
  pub short : used + length part ≤ 1048576

-- The part opens a literal of too many octets.
pub record HasLargeLiteral (used : ℕ) (tail front digits rest : List ℕ) : Type 0 where
  pub text : tail ≡ (front ++ header digits) ++ 13 ∷ 10 ∷ rest
  pub plain : NoLf front
  pub number : IsNumeral 10 digits
  pub large : 33554432 < digits_value 10 digits
  pub short : used + length (front ++ header digits) ≤ 1048576

-- a byte stands there that is no LF
abbrev pub GoesOn : List ℕ → Type 0
GoesOn [] = ⊥
GoesOn (byte ∷ rest) = byte ≢ 10

-- The line has all the bytes that it may have, and this byte more, which neither ends it nor is the CR of its CRLF.
pub record HasLongLine (used : ℕ) (tail part : List ℕ) (byte : ℕ) (rest : List ℕ) : Type 0 where
  pub text : tail ≡ part ++ byte ∷ rest
  pub plain : NoLf part
  pub full : used + length part ≡ 1048576
  pub goes_on : byte ≢ 10
  pub no_end : byte ≡ 13 → GoesOn rest

-- the first part of the tail has this fault: the tail has its place in the stream, and so much of the line is used
abbrev pub PartFault : ℕ → ℕ → List ℕ → FeedFault → Type 0
PartFault at used tail (faults.BareLf place) =
    (part : List ℕ) × (rest : List ℕ) × HasBareLf used tail part rest × (place ≡ told (at + length part))
PartFault at used tail (faults.LiteralTooLarge place asked) =
    (front : List ℕ) × (digits : List ℕ) × (rest : List ℕ) × HasLargeLiteral used tail front digits rest
    × (place ≡ told (at + length front)) × (asked ≡ min (digits_value 10 digits) (2 ^ 63 - 1))
PartFault at used tail (faults.LineTooLong place) =
    (part : List ℕ) × (byte : ℕ) × (rest : List ℕ) × HasLongLine used tail part byte rest × (place ≡ told (at + length part))
PartFault at used tail faults.Memory = ⊥

-- the first line of the stream has this fault
abbrev pub LineFault : ℕ → List ℕ → FeedFault → Type 0
LineFault at stream fault =
    (openings : List Opening) × (tail : List ℕ) × AllByRecursion IsOpening openings
    × (stream ≡ flat_map opening_text openings ++ tail)
    × PartFault (at + length (flat_map opening_text openings)) (counted openings) tail fault

-- the stream has this fault behind some whole frames: the first one from the left
abbrev pub FirstFault : ℕ → List ℕ → FeedFault → Type 0
FirstFault at stream fault =
    (frames : List Frame) × (rest : List ℕ) × AreFrames at stream frames rest
    × LineFault (at + (length stream - length rest)) rest fault
