-- Rows that rise, and what is put, taken and counted among them.
use Rattle.std.proofs.Common.{◌≡◌, ℕ, ◌<◌, ◌≤◌, false, List, [], ◌∷◌, ◌++◌, refl, ap, arith, filter}
use Rattle.std.specs.Prelude.{not}
use Rattle.uid_sets.specs.declared.uid.UidRange.{UidRange}
use Rattle.mailbox_cache.specs.Rows.{has_uid, put_row, put_rows, without_uids, RisesAbove, Rises, AreApart, last_uid}
use Rattle.mailbox_cache.specs.declared.row.Row.{Row}

pub above_weaker : (low floor : ℕ) (rows : List (ℕ × Row)) → low ≤ floor → RisesAbove floor rows → RisesAbove low rows
above_weaker low floor [] h a = tt
above_weaker low floor (r ∷ rows) h a = (omega (arith, a.0), a.1)

pub above_rises : (floor : ℕ) (rows : List (ℕ × Row)) → RisesAbove floor rows → Rises rows
above_rises floor [] a = tt
above_rises floor (r ∷ rows) a = a.1

-- the last of the new rows is put first
pub put_rows-last : (e : ℕ × Row) (new rows : List (ℕ × Row)) → put_rows (new ++ e ∷ []) rows ≡ put_rows new (put_row e rows)
put_rows-last e [] rows = refl
put_rows-last e (r ∷ new) rows = ap (put_row r) (put_rows-last e new rows)

-- the rows that a test keeps which asks for the ranges
pub without_filter : (ranges : List UidRange) (rows : List (ℕ × Row)) → filter (λ e. not (has_uid ranges e.0)) rows ≡ without_uids ranges rows
without_filter ranges [] = refl
without_filter ranges (r ∷ rows) = grind (arith, without_filter ranges rows)

push_above : (floor : ℕ) (r : ℕ × Row) (rows : List (ℕ × Row)) (new : ℕ × Row) → last_uid (r ∷ rows) < new.0 →
    RisesAbove floor (r ∷ rows) → RisesAbove floor (r ∷ rows ++ new ∷ [])
push_above floor r [] new h a = (a.0, (h, tt))
push_above floor r (x ∷ rows) new h a = (a.0, push_above r.0 x rows new h a.1)

-- a row above the last one goes behind the others
pub push_rises : (rows : List (ℕ × Row)) (new : ℕ × Row) → last_uid rows < new.0 → Rises rows → Rises (rows ++ new ∷ [])
push_rises [] new h a = tt
push_rises (r ∷ []) new h a = (h, tt)
push_rises (r ∷ x ∷ rows) new h a = push_above r.0 x rows new h a

pub push_apart : (ranges : List UidRange) (rows : List (ℕ × Row)) (new : ℕ × Row) → has_uid ranges new.0 ≡ false → AreApart ranges rows →
    AreApart ranges (rows ++ new ∷ [])
push_apart ranges [] new h a = (h, tt)
push_apart ranges (r ∷ rows) new h a = (a.0, push_apart ranges rows new h a.1)

pub last_uid-last : (rows : List (ℕ × Row)) (e : ℕ × Row) → last_uid (rows ++ e ∷ []) ≡ e.0
last_uid-last [] e = refl
last_uid-last (r ∷ []) e = refl
last_uid-last (r ∷ x ∷ rows) e = last_uid-last (x ∷ rows) e
