-- How far a line was read (RFC 9051, sections 2.2 and 4.3), in the words of the frames of a stream.
use Rattle.std.specs.Prelude.{◌≡◌, ℕ, ◌+◌, ◌-◌, ◌<◌, ◌≤◌, ◌⊎◌, List, ◌∷◌, ◌++◌, length, take}
use Rattle.std.specs.List.{AllByRecursion, flat_map}
use Rattle.std.specs.Str.Parse.{IsNumeral, digits_value}
use Rattle.mail_base.specs.Frames.{NoLf, header, Opening, IsOpening, opening_text, counted, BeginsWith, line_text, LineFault}
use Rattle.literal_feed.specs.Parts.{IsOpenPart}
use Rattle.literal_feed.specs.declared.part.Cursor.{Cursor}
use Rattle.literal_feed.specs.declared.line.Found.{Found}
use Rattle.literal_feed.specs.declared.line.Found.TheVariants as found

-- the line opens these literals, and then comes a part that was searched up to a place
pub record IsInPart (line : List ℕ) (part searched used : ℕ) (openings : List Opening) (tail : List ℕ) : Type 0 where
  pub text : line ≡ flat_map opening_text openings ++ tail
  pub opened : AllByRecursion IsOpening openings
  pub begins : part ≡ length (flat_map opening_text openings)
  pub within : searched ≤ length line
  pub plain : NoLf (take (searched - part) tail)
  pub used_is : used ≡ counted openings

-- the line opens these literals, and then one whose octets aren't all there
pub record IsInLiteral (line : List ℕ) (part used : ℕ) (openings : List Opening) (front digits octets : List ℕ) : Type 0 where
  pub text : line ≡ flat_map opening_text openings ++ ((front ++ header digits) ++ 13 ∷ 10 ∷ octets)
  pub opened : AllByRecursion IsOpening openings
  pub plain : NoLf front
  pub number : IsNumeral 10 digits
  pub few : digits_value 10 digits ≤ 33554432
  pub owed : length octets < digits_value 10 digits
  pub begins : part ≡ length (flat_map opening_text openings) + length (front ++ header digits) + 2 + digits_value 10 digits
  pub used_is : used ≡ counted openings + length (front ++ header digits)
  pub short : used ≤ 1048576

-- the line was read so far
abbrev pub Stands : List ℕ → Cursor → Type 0
Stands line cursor =
    ((openings : List Opening) × (tail : List ℕ) × IsInPart line cursor.part cursor.searched cursor.counted openings tail)
    ⊎ ((cursor.searched ≡ cursor.part) × (openings : List Opening) × (front : List ℕ) × (digits : List ℕ) × (octets : List ℕ)
    × IsInLiteral line cursor.part cursor.counted openings front digits octets)

-- the line isn't whole, and has no fault so far
abbrev pub IsOpenLine : List ℕ → Type 0
IsOpenLine line =
    ((openings : List Opening) × (tail : List ℕ) × AllByRecursion IsOpening openings × (line ≡ flat_map opening_text openings ++ tail)
    × IsOpenPart (counted openings) tail)
    ⊎ ((part : ℕ) × (used : ℕ) × (openings : List Opening) × (front : List ℕ) × (digits : List ℕ) × (octets : List ℕ)
    × IsInLiteral line part used openings front digits octets)

-- the line is whole, without its CRLF of this size
abbrev pub IsWholeLine : List ℕ → ℕ → Type 0
IsWholeLine line size = (openings : List Opening) × (last : List ℕ) × (rest : List ℕ) × BeginsWith line openings last rest
    × (size ≡ length (line_text openings last))

-- the line, which has this place, was found so
abbrev pub FoundAs : ℕ → List ℕ → Found → Type 0
FoundAs at line (found.Open cursor) = ∥ Stands line cursor ∥₁ × ∥ IsOpenLine line ∥₁
FoundAs at line (found.Whole size) = ∥ IsWholeLine line size ∥₁
FoundAs at line (found.Bad fault) = ∥ LineFault at line fault ∥₁
