-- Which UIDs a list of ranges holds, and the one list for each set (RFC 9051, sections 2.3.1.1 and 9).
use Rattle.std.specs.Prelude.{◌≡◌, ◌↔◌, ℕ, ◌+◌, ◌^◌, ◌<◌, ◌≤◌, ◌⊎◌, List, [], ◌∷◌}
use Rattle.uid_sets.specs.Uid.{IsWithin}
use Rattle.uid_sets.specs.declared.uid.UidRange.{UidRange}

-- the UID is in one of the ranges
abbrev pub Member : List UidRange → ℕ → Type 0
Member [] uid = ⊥
Member (range ∷ ranges) uid = IsWithin range.low range.high uid ⊎ Member ranges uid

-- a range of 32-bit numbers above floor
pub record IsRange (floor : ℕ) (range : UidRange) : Type 0 where
  pub above : floor < range.low
  pub ordered : range.low ≤ range.high
  pub fits : range.high < 2 ^ 32

-- The ranges rise above floor, and the number behind each range is free: they neither overlap nor touch.
abbrev pub RisesAbove : ℕ → List UidRange → Type 0
RisesAbove floor [] = Unit {0}
RisesAbove floor (range ∷ ranges) = IsRange floor range × RisesAbove (range.high + 1) ranges

-- the list of ranges that stands for a set of UIDs: a UID is nonzero
abbrev pub IsCanonical : List UidRange → Type 0
IsCanonical ranges = RisesAbove 0 ranges

-- the ranges hold this UID and no other
abbrev pub IsOnly : List UidRange → ℕ → Type 0
IsOnly ranges uid = (other : ℕ) → Member ranges other ↔ (other ≡ uid)
