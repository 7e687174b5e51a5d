-- Ranges in the order in which a set is put together (RFC 9051, section 9, sequence-set).
use Rattle.std.specs.Prelude.{ℕ, ◌+◌, ◌≤◌, List, [], ◌∷◌}
use Rattle.uid_sets.specs.UidSet.{IsRange}
use Rattle.uid_sets.specs.declared.uid.UidRange.{UidRange}

-- where the last range begins, and 0 where there is none
abbrev pub last_low : List UidRange → ℕ
last_low [] = 0
last_low (range ∷ []) = range.low
last_low (range ∷ next ∷ ranges) = last_low (next ∷ ranges)

-- what a further range has to stand above, behind ranges that stand above floor
abbrev pub floor_behind : ℕ → List UidRange → ℕ
floor_behind floor [] = floor
floor_behind floor (range ∷ ranges) = floor_behind (range.high + 1) ranges

-- ranges of nonzero numbers that rise by their low ends, none of which is below floor; they may overlap
abbrev pub RisesByLow : ℕ → List UidRange → Type 0
RisesByLow floor [] = Unit {0}
RisesByLow floor (range ∷ ranges) = (floor ≤ range.low) × IsRange 0 range × RisesByLow range.low ranges
