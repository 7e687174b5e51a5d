-- Rows by UID, in rising order (RFC 9051, section 2.3.1.1), and what a delta makes of them (RFC 7162, section 3.2).
use Rattle.std.specs.Prelude.{◌≡◌, ℕ, ◌<◌, Bool, true, false, cond, eqb, ltb, nat_le, ◌&&◌, ◌||◌, ◌≤◌, List, [], ◌∷◌, length, Option}
use Rattle.std.specs.Prelude.{Some, None, is_some, ⊤, ◌+◌}
use Rattle.std.specs.Coded.{×_prop, Unit-prop, le_prop, Coded-set, coded_bool}
use Rattle.uid_sets.specs.declared.uid.UidRange.{UidRange}
use Rattle.mailbox_cache.specs.declared.row.Row.{Row}

-- the row of a UID
abbrev pub row_at : ℕ → List (ℕ × Row) → Option Row
row_at uid [] = None
row_at uid (r ∷ rows) = cond (eqb r.0 uid) (Some r.1) (row_at uid rows)

-- whether the UID is in one of the ranges
abbrev pub has_uid : List UidRange → ℕ → Bool
has_uid [] uid = false
has_uid (range ∷ ranges) uid = (nat_le range.low uid && nat_le uid range.high) || has_uid ranges uid

-- the rows whose UIDs aren't in the ranges
abbrev pub without_uids : List UidRange → List (ℕ × Row) → List (ℕ × Row)
without_uids ranges [] = []
without_uids ranges (r ∷ rows) = cond (has_uid ranges r.0) (without_uids ranges rows) (r ∷ without_uids ranges rows)

-- a row in place of that of its UID, or at its place in the order
abbrev pub put_row : (ℕ × Row) → List (ℕ × Row) → List (ℕ × Row)
put_row new [] = new ∷ []
put_row new (r ∷ rows) = cond (eqb r.0 new.0) (new ∷ rows) (cond (ltb new.0 r.0) (new ∷ r ∷ rows) (r ∷ put_row new rows))

-- each of the first rows put into the second
abbrev pub put_rows : List (ℕ × Row) → List (ℕ × Row) → List (ℕ × Row)
put_rows [] rows = rows
put_rows (r ∷ new) rows = put_row r (put_rows new rows)

-- what is known of a UID afterwards, by the row that was told, whether it vanished, and the row before
abbrev pub told : Option Row → Bool → Option Row → Option Row
told (Some row) gone before = Some row
told None true before = None
told None false before = before

-- how many of the first rows have a UID that the second don't have
abbrev pub strangers : List (ℕ × Row) → List (ℕ × Row) → ℕ
strangers [] rows = 0
strangers (r ∷ new) rows = cond (is_some (row_at r.0 rows)) 0 1 + strangers new rows

-- the room that so many rows need among so many others: none where none is told
abbrev pub told_room : ℕ → ℕ → ℕ
told_room len told = cond (eqb told 0) 0 (len + told)

-- the room that the second rows need among the first
abbrev pub room_for : List (ℕ × Row) → List (ℕ × Row) → ℕ
room_for rows told = told_room (length rows) (length told)

-- whether the first row has this UID
abbrev pub starts_with_uid : ℕ → List (ℕ × Row) → Bool
starts_with_uid uid [] = false
starts_with_uid uid (r ∷ rows) = eqb r.0 uid

-- the first row's UID is at least this one; where rows rise, so is each later one
abbrev pub StartsFrom : ℕ → List (ℕ × Row) → Type 0
StartsFrom uid [] = ⊤
StartsFrom uid (r ∷ rows) = uid ≤ r.0

-- each row's UID is below this one
abbrev pub AllBelow : ℕ → List (ℕ × Row) → Type 0
AllBelow uid [] = ⊤
AllBelow uid (r ∷ rows) = (r.0 < uid) × AllBelow uid rows

-- each UID is above the one before it, and the first above floor
abbrev pub RisesAbove : ℕ → List (ℕ × Row) → Type 0
RisesAbove floor [] = ⊤
RisesAbove floor (r ∷ rows) = (floor < r.0) × RisesAbove r.0 rows

-- each UID is above the one before it, so that none comes twice
abbrev pub Rises : List (ℕ × Row) → Type 0
Rises [] = ⊤
Rises (r ∷ rows) = RisesAbove r.0 rows

-- the last row's UID, and 0 where there is no row
abbrev pub last_uid : List (ℕ × Row) → ℕ
last_uid [] = 0
last_uid (r ∷ []) = r.0
last_uid (r ∷ next ∷ rows) = last_uid (next ∷ rows)

-- no row's UID is in the ranges
abbrev pub AreApart : List UidRange → List (ℕ × Row) → Type 0
AreApart ranges [] = ⊤
AreApart ranges (r ∷ rows) = (has_uid ranges r.0 ≡ false) × AreApart ranges rows

pub RisesAbove-prop : (floor : ℕ) (rows : List (ℕ × Row)) → IsProp (RisesAbove floor rows)
RisesAbove-prop floor [] = Unit-prop
RisesAbove-prop floor (r ∷ rows) = ×_prop le_prop (RisesAbove-prop r.0 rows)

pub Rises-prop : (rows : List (ℕ × Row)) → IsProp (Rises rows)
Rises-prop [] = Unit-prop
Rises-prop (r ∷ rows) = RisesAbove-prop r.0 rows

pub AreApart-prop : (ranges : List UidRange) (rows : List (ℕ × Row)) → IsProp (AreApart ranges rows)
AreApart-prop ranges [] = Unit-prop
AreApart-prop ranges (r ∷ rows) = ×_prop (Coded-set coded_bool (has_uid ranges r.0) false) (AreApart-prop ranges rows)
