-- Sets of UIDs (RFC 9051, section 9, sequence-set and uid-set), as they are read: the one list of ranges for what is written.
use Rattle.std.specs.Prelude.{◌≡◌, ◌⊎◌, ℕ, ◌+◌, ◌<◌, ◌^◌, nat_lt, min, max, List, [], ◌∷◌, Option, Some, None, Result, Ok, Err, if◌then◌else◌}
use Rattle.uid_sets.specs.SequenceSet.{items_of}
use Rattle.uid_sets.specs.declared.set_fault.SetFault.{SetFault}
use Rattle.uid_sets.specs.declared.uid.UidRange.{UidRange}
use Rattle.imap_response.specs.Reads.{with_rest}
use Rattle.imap_response.specs.Leaf.{wide_at}

-- a nonzero number of 32 bits
abbrev pub IsUidNumber : ℕ → Type 0
IsUidNumber number = (0 < number) × (number < 2 ^ 32)

-- the number is one of these
abbrev pub IsIn : List ℕ → ℕ → Type 0
IsIn [] uid = ⊥
IsIn (number ∷ numbers) uid = (uid ≡ number) ⊎ IsIn numbers uid

-- the set with one range more, which is joined with those that it overlaps or touches
unfoldable pub put_range : UidRange → List UidRange → List UidRange
put_range range [] = range ∷ []
put_range range (first ∷ later) =
    if nat_lt (range.high + 1) first.low then range ∷ first ∷ later
    else (if nat_lt (first.high + 1) range.low then first ∷ put_range range later
    else put_range (record { low = min first.low range.low; high = max first.high range.high }) later)

-- the set of ranges as they are written
abbrev pub set_of_ranges : List UidRange → List UidRange
set_of_ranges [] = []
set_of_ranges (range ∷ ranges) = put_range range (set_of_ranges ranges)

-- the set of these numbers
abbrev pub set_of_numbers : List ℕ → List UidRange
set_of_numbers [] = []
set_of_numbers (number ∷ numbers) = put_range (record { low = number; high = number }) (set_of_numbers numbers)

-- the set, if the text is one
abbrev pub if_written : Result (List UidRange) SetFault → Option (List UidRange)
if_written (Ok ranges) = Some (set_of_ranges ranges)
if_written (Err fault) = None

-- a set of UIDs
unfoldable pub set_at : List ℕ → Result (List UidRange × List ℕ) ℕ
set_at text = with_rest text (wide_at text).1 (if_written (items_of (wide_at text).0))
