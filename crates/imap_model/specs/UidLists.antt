-- The set of the UIDs in a list (RFC 9051, section 9, sequence-set).
use Rattle.std.specs.Prelude.{ℕ, ◌+◌, ◌==◌, nat_lt, List, [], ◌∷◌, if◌then◌else◌}
use Rattle.uid_sets.specs.declared.uid.UidRange.{UidRange}

-- a UID in its place among rising ones, unless it is there
abbrev pub put_uid : ℕ → List ℕ → List ℕ
put_uid uid [] = uid ∷ []
put_uid uid (next ∷ uids) = if nat_lt uid next then uid ∷ next ∷ uids else (if uid == next then next ∷ uids else next ∷ put_uid uid uids)

-- the UIDs in rising order, each once
abbrev pub in_order : List ℕ → List ℕ
in_order [] = []
in_order (uid ∷ uids) = put_uid uid (in_order uids)

-- a UID in front of ranges above it: it lengthens the first one where that begins behind it
abbrev pub in_front : ℕ → List UidRange → List UidRange
in_front uid [] = record { low = uid; high = uid } ∷ []
in_front uid (range ∷ ranges) =
    if range.low == uid + 1 then record { low = uid; high = range.high } ∷ ranges else record { low = uid; high = uid } ∷ range ∷ ranges

-- the ranges of rising UIDs
abbrev pub ranges_of : List ℕ → List UidRange
ranges_of [] = []
ranges_of (uid ∷ uids) = in_front uid (ranges_of uids)

-- the set of the UIDs
abbrev pub set_of : List ℕ → List UidRange
set_of uids = ranges_of (in_order uids)
