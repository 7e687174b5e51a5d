-- The one text that a set is written as (RFC 9051, section 9, sequence-set).
use Rattle.std.specs.Prelude.{ℕ, ◌==◌, if◌then◌else◌, List, ◌∷◌, ◌++◌, decimal, map}
use Rattle.std.specs.List.{join_with_byte}
use Rattle.uid_sets.specs.declared.uid.UidRange.{UidRange}

-- A range of one is one number. No number has leading zeros.
abbrev pub range_text : UidRange → List ℕ
range_text range =
    if range.low == range.high then decimal range.low else decimal range.low ++ 58 ∷ decimal range.high

-- the ranges in their order, with commas between
abbrev pub set_text : List UidRange → List ℕ
set_text ranges = join_with_byte 44 (map range_text ranges)
