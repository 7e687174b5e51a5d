-- How many rows there are after a delta.
use Rattle.std.proofs.Common.{◌≡◌, ℕ, ◌<◌, ◌≤◌, ◌+◌, cond, eqb, ltb, List, [], ◌∷◌, length, Some, None, Option, refl, ◌∙◌, ap, subst, arith}
use Rattle.std.specs.Option.{is_some}
use Rattle.std.proofs.lemmas.Bool.{cond_both, cond-true, cond-false, eqb-true, eqb-false, ne_eqb, ltb-true, ltb-false}
use Rattle.uid_sets.specs.declared.uid.UidRange.{UidRange}
use Rattle.mailbox_cache.specs.Rows.{row_at, has_uid, put_row, put_rows, without_uids, strangers, told_room, RisesAbove, Rises, AreApart}
use Rattle.mailbox_cache.specs.declared.row.Row.{Row}
use Rattle.mailbox_cache.proofs.Rising.{above_weaker, above_rises}
use Rattle.mailbox_cache.proofs.Lookups.{rows_none, without_out}

-- no row at or below the floor
pub absent : (uid floor : ℕ) (rows : List (ℕ × Row)) → uid ≤ floor → RisesAbove floor rows → row_at uid rows ≡ None
absent uid floor [] h a = refl
absent uid floor (r ∷ rows) h a =
    let l : floor < r.0 = a.0 in
    cond-false (eqb r.0 uid) (Some r.1) (row_at uid rows) (ne_eqb r.0 uid (λ q. omega arith)) ∙ absent uid r.0 rows (omega arith) a.1

put_above : (floor : ℕ) (new : ℕ × Row) (rows : List (ℕ × Row)) → floor < new.0 → RisesAbove floor rows → RisesAbove floor (put_row new rows)
put_above floor new [] h a = (h, tt)
put_above floor new (r ∷ rows) h a =
    cond_both (eqb r.0 new.0) (new ∷ rows) (cond (ltb new.0 r.0) (new ∷ r ∷ rows) (r ∷ put_row new rows)) (RisesAbove floor)
    (λ t. (h, subst (λ (k : ℕ). RisesAbove k rows) (eqb-true r.0 new.0 t) a.1))
    (λ f. cond_both (ltb new.0 r.0) (new ∷ r ∷ rows) (r ∷ put_row new rows) (RisesAbove floor)
    (λ t. (h, (ltb-true new.0 r.0 t, a.1)))
    (λ g. (a.0, put_above r.0 new rows (let l : r.0 ≤ new.0 = ltb-false new.0 r.0 g in let n : r.0 ≡ new.0 → ⊥ = eqb-false r.0 new.0 f in omega arith) a.1)))

pub put_rises : (new : ℕ × Row) (rows : List (ℕ × Row)) → Rises rows → Rises (put_row new rows)
put_rises new [] a = tt
put_rises new (r ∷ rows) a =
    cond_both (eqb r.0 new.0) (new ∷ rows) (cond (ltb new.0 r.0) (new ∷ r ∷ rows) (r ∷ put_row new rows)) Rises
    (λ t. subst (λ (k : ℕ). RisesAbove k rows) (eqb-true r.0 new.0 t) a)
    (λ f. cond_both (ltb new.0 r.0) (new ∷ r ∷ rows) (r ∷ put_row new rows) Rises
    (λ t. (ltb-true new.0 r.0 t, a))
    (λ g. put_above r.0 new rows (let l : r.0 ≤ new.0 = ltb-false new.0 r.0 g in let n : r.0 ≡ new.0 → ⊥ = eqb-false r.0 new.0 f in omega arith) a))

pub puts_rise : (new rows : List (ℕ × Row)) → Rises rows → Rises (put_rows new rows)
puts_rise [] rows a = a
puts_rise (r ∷ new) rows a = put_rises r (put_rows new rows) (puts_rise new rows a)

without_above : (us : List UidRange) (floor : ℕ) (rows : List (ℕ × Row)) → RisesAbove floor rows → RisesAbove floor (without_uids us rows)
without_above us floor [] a = tt
without_above us floor (r ∷ rows) a =
    cond_both (has_uid us r.0) (without_uids us rows) (r ∷ without_uids us rows) (RisesAbove floor)
    (λ t. above_weaker floor r.0 (without_uids us rows) (let l : floor < r.0 = a.0 in omega arith) (without_above us r.0 rows a.1))
    (λ f. (a.0, without_above us r.0 rows a.1))

pub without_rises : (us : List UidRange) (rows : List (ℕ × Row)) → Rises rows → Rises (without_uids us rows)
without_rises us [] a = tt
without_rises us (r ∷ rows) a =
    cond_both (has_uid us r.0) (without_uids us rows) (r ∷ without_uids us rows) Rises
    (λ t. above_rises r.0 (without_uids us rows) (without_above us r.0 rows a))
    (λ f. without_above us r.0 rows a)

-- one more row, unless its UID is there
abbrev more : Option Row → ℕ
more o = cond (is_some o) 0 1

put_longer : (new : ℕ × Row) (rows : List (ℕ × Row)) → Rises rows → length (put_row new rows) ≡ more (row_at new.0 rows) + length rows
put_longer new [] a = omega arith
put_longer new (r ∷ rows) a =
    cond_both (eqb r.0 new.0) (new ∷ rows) (cond (ltb new.0 r.0) (new ∷ r ∷ rows) (r ∷ put_row new rows))
    (λ (l : List (ℕ × Row)). length l ≡ more (row_at new.0 (r ∷ rows)) + length (r ∷ rows))
    (λ t. let m : more (row_at new.0 (r ∷ rows)) ≡ 0 = ap more (cond-true (eqb r.0 new.0) (Some r.1) (row_at new.0 rows) t) in omega (arith, m))
    (λ f. let there : row_at new.0 (r ∷ rows) ≡ row_at new.0 rows = cond-false (eqb r.0 new.0) (Some r.1) (row_at new.0 rows) f in
    cond_both (ltb new.0 r.0) (new ∷ r ∷ rows) (r ∷ put_row new rows) (λ (l : List (ℕ × Row)). length l ≡ more (row_at new.0 (r ∷ rows)) + length (r ∷ rows))
    (λ t. let l : new.0 < r.0 = ltb-true new.0 r.0 t in
    let m : more (row_at new.0 (r ∷ rows)) ≡ 1 = ap more (there ∙ absent new.0 r.0 rows (omega arith) a) in omega (arith, m))
    (λ g. let k : length (put_row new rows) ≡ more (row_at new.0 rows) + length rows = put_longer new rows (above_rises r.0 rows a) in
    let m : more (row_at new.0 (r ∷ rows)) ≡ more (row_at new.0 rows) = ap more there in omega (arith, k, m)))

puts_longer : (new rows : List (ℕ × Row)) → Rises new → Rises rows → length (put_rows new rows) ≡ strangers new rows + length rows
puts_longer [] rows n a = omega arith
puts_longer (r ∷ new) rows n a =
    let k : length (put_rows new rows) ≡ strangers new rows + length rows = puts_longer new rows (above_rises r.0 new n) a in
    let m : more (row_at r.0 (put_rows new rows)) ≡ more (row_at r.0 rows) = ap more (rows_none r.0 new rows (absent r.0 r.0 new (omega arith) n)) in
    let l : length (put_row r (put_rows new rows)) ≡ more (row_at r.0 (put_rows new rows)) + length (put_rows new rows) =
    put_longer r (put_rows new rows) (puts_rise new rows a) in
    omega (arith, k, m, l)

-- rows apart from the ranges are strangers to what is kept where they are strangers to all
strangers_kept : (us : List UidRange) (new rows : List (ℕ × Row)) → AreApart us new → strangers new (without_uids us rows) ≡ strangers new rows
strangers_kept us [] rows p = refl
strangers_kept us (r ∷ new) rows p =
    let m : more (row_at r.0 (without_uids us rows)) ≡ more (row_at r.0 rows) = ap more (without_out r.0 us rows p.0) in
    let k : strangers new (without_uids us rows) ≡ strangers new rows = strangers_kept us new rows p.1 in
    omega (arith, m, k)

-- the rows after a delta are those that are kept and the strangers
pub length_after : (us : List UidRange) (new rows : List (ℕ × Row)) → Rises new → AreApart us new → Rises rows →
    length (put_rows new (without_uids us rows)) ≡ strangers new rows + length (without_uids us rows)
length_after us new rows n p a = puts_longer new (without_uids us rows) n (without_rises us rows a)
    ∙ ap (λ (k : ℕ). k + length (without_uids us rows)) (strangers_kept us new rows p)

put_within : (new : ℕ × Row) (rows : List (ℕ × Row)) → length (put_row new rows) ≤ 1 + length rows
put_within new [] = omega arith
put_within new (r ∷ rows) =
    let k : length (put_row new rows) ≤ 1 + length rows = put_within new rows in
    cond_both (eqb r.0 new.0) (new ∷ rows) (cond (ltb new.0 r.0) (new ∷ r ∷ rows) (r ∷ put_row new rows))
    (λ (l : List (ℕ × Row)). length l ≤ 1 + length (r ∷ rows))
    (λ t. omega arith)
    (λ f. cond_both (ltb new.0 r.0) (new ∷ r ∷ rows) (r ∷ put_row new rows) (λ (l : List (ℕ × Row)). length l ≤ 1 + length (r ∷ rows))
    (λ t. omega arith)
    (λ g. omega (arith, k)))

pub without_within : (us : List UidRange) (rows : List (ℕ × Row)) → length (without_uids us rows) ≤ length rows
without_within us [] = omega arith
without_within us (r ∷ rows) =
    let k : length (without_uids us rows) ≤ length rows = without_within us rows in
    cond_both (has_uid us r.0) (without_uids us rows) (r ∷ without_uids us rows) (λ (l : List (ℕ × Row)). length l ≤ length (r ∷ rows))
    (λ t. omega (arith, k))
    (λ f. omega (arith, k))

-- the rows after a delta are those of both at most
pub length_within : (us : List UidRange) (new rows : List (ℕ × Row)) → length (put_rows new (without_uids us rows)) ≤ length rows + length new
length_within us [] rows = let k : length (without_uids us rows) ≤ length rows = without_within us rows in omega (arith, k)
length_within us (r ∷ new) rows =
    let k : length (put_rows new (without_uids us rows)) ≤ length rows + length new = length_within us new rows in
    let p : length (put_row r (put_rows new (without_uids us rows))) ≤ 1 + length (put_rows new (without_uids us rows)) =
    put_within r (put_rows new (without_uids us rows)) in
    omega (arith, k, p)

-- where some rows are told there is room for all
pub room_fits : (len told room : ℕ) → (told ≡ 0 → ⊥) → told_room len told ≤ room → len + told ≤ room
room_fits len told room some fits = subst (λ (n : ℕ). n ≤ room) (cond-false (eqb told 0) 0 (len + told) (ne_eqb told 0 some)) fits
