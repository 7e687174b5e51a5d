-- Where a UID stands among rows that rise, and what is put there.
use Rattle.std.proofs.Common.{◌≡◌, ℕ, zero, suc, ◌<◌, ◌≤◌, cond, eqb, ltb, true, false, List, [], ◌∷◌, ◌++◌, length, take, drop}
use Rattle.std.proofs.Common.{slice_set, slice_get, get_or, Some, None, refl, sym, ◌∙◌, ap, subst, arith}
use Rattle.std.specs.List.Sorted.{IsNonDecreasingBy}
use Rattle.std.proofs.lemmas.Bool.{cond_both, cond-true, cond-false, eqb-false, eq-eqb, ne_eqb, lt-ltb, le-ltb}
use Rattle.mailbox_cache.specs.Rows.{row_at, put_row, put_rows, RisesAbove, Rises, AllBelow, StartsFrom, starts_with_uid}
use Rattle.mailbox_cache.specs.declared.row.Row.{Row}
use Rattle.mailbox_cache.proofs.Rising.{above_rises}
use Rattle.mailbox_cache.proofs.Counting.{absent}

no_lower : (floor : ℕ) (rows : List (ℕ × Row)) (j : ℕ) (d : ℕ × Row) → RisesAbove floor rows → j < length rows → floor < (get_or rows j d).0
no_lower floor [] j d a h = absurd (omega arith)
no_lower floor (r ∷ rows) zero d a h = a.0
no_lower floor (r ∷ rows) (suc j) d a h = let k : r.0 < (get_or rows j d).0 = no_lower r.0 rows j d a.1 (omega arith) in omega (arith, a.0, k)

-- the UIDs don't fall
pub uids_rise : (rows : List (ℕ × Row)) → Rises rows → IsNonDecreasingBy (λ (r : ℕ × Row). r.0) rows
uids_rise [] a i j d le within = absurd (omega arith)
uids_rise (r ∷ rows) a zero zero d le within = omega arith
uids_rise (r ∷ rows) a zero (suc j) d le within = let k : r.0 < (get_or rows j d).0 = no_lower r.0 rows j d a (omega arith) in omega (arith, k)
uids_rise (r ∷ rows) a (suc i) zero d le within = absurd (omega arith)
uids_rise (r ∷ rows) a (suc i) (suc j) d le within = uids_rise rows (above_rises r.0 rows a) i j d (omega arith) (omega arith)

-- rows of which each up to a place is below the UID
pub all_below : (uid : ℕ) (rows : List (ℕ × Row)) (i : ℕ) → i ≤ length rows → ((k : ℕ) (d : ℕ × Row) → k < i → (get_or rows k d).0 < uid) →
    AllBelow uid (take i rows)
all_below uid [] zero h f = tt
all_below uid [] (suc i) h f = tt
all_below uid (r ∷ rows) zero h f = tt
all_below uid (r ∷ rows) (suc i) h f = (f 0 r (omega arith), all_below uid rows i (omega arith) (λ k d l. f (suc k) d (omega arith)))

pub starts_from : (uid : ℕ) (rows : List (ℕ × Row)) (i : ℕ) → ((d : ℕ × Row) → i < length rows → uid ≤ (get_or rows i d).0) → StartsFrom uid (drop i rows)
starts_from uid [] zero f = tt
starts_from uid [] (suc i) f = tt
starts_from uid (r ∷ rows) zero f = f r (omega arith)
starts_from uid (r ∷ rows) (suc i) f = starts_from uid rows i (λ d l. f d (omega arith))

-- a row that is there is put in its own place
pub put_set : (new : ℕ × Row) (rows : List (ℕ × Row)) (i : ℕ) → AllBelow new.0 (take i rows) → starts_with_uid new.0 (drop i rows) ≡ true →
    slice_set rows i new ≡ put_row new rows
put_set new [] zero b t = absurd (cc)
put_set new [] (suc i) b t = absurd (cc)
put_set new (r ∷ rows) zero b t = sym (cond-true (eqb r.0 new.0) (new ∷ rows) (cond (ltb new.0 r.0) (new ∷ r ∷ rows) (r ∷ put_row new rows)) t)
put_set new (r ∷ rows) (suc i) b t =
    let l : r.0 < new.0 = b.0 in
    ap (λ (x : List (ℕ × Row)). r ∷ x) (put_set new rows i b.1 t)
    ∙ sym (cond-false (eqb r.0 new.0) (new ∷ rows) (cond (ltb new.0 r.0) (new ∷ r ∷ rows) (r ∷ put_row new rows)) (ne_eqb r.0 new.0 (λ q. omega arith))
    ∙ cond-false (ltb new.0 r.0) (new ∷ r ∷ rows) (r ∷ put_row new rows) (le-ltb new.0 r.0 (omega arith)))

-- one that isn't there is put between
pub put_between : (new : ℕ × Row) (rows : List (ℕ × Row)) (i : ℕ) → AllBelow new.0 (take i rows) → StartsFrom new.0 (drop i rows) →
    starts_with_uid new.0 (drop i rows) ≡ false → put_row new rows ≡ take i rows ++ new ∷ drop i rows
put_between new [] zero b s f = refl
put_between new [] (suc i) b s f = refl
put_between new (r ∷ rows) zero b s f =
    let n : r.0 ≡ new.0 → ⊥ = eqb-false r.0 new.0 f in
    cond-false (eqb r.0 new.0) (new ∷ rows) (cond (ltb new.0 r.0) (new ∷ r ∷ rows) (r ∷ put_row new rows)) f
    ∙ cond-true (ltb new.0 r.0) (new ∷ r ∷ rows) (r ∷ put_row new rows) (lt-ltb new.0 r.0 (omega (arith, s)))
put_between new (r ∷ rows) (suc i) b s f =
    let l : r.0 < new.0 = b.0 in
    cond-false (eqb r.0 new.0) (new ∷ rows) (cond (ltb new.0 r.0) (new ∷ r ∷ rows) (r ∷ put_row new rows)) (ne_eqb r.0 new.0 (λ q. omega arith))
    ∙ cond-false (ltb new.0 r.0) (new ∷ r ∷ rows) (r ∷ put_row new rows) (le-ltb new.0 r.0 (omega arith))
    ∙ ap (λ (x : List (ℕ × Row)). r ∷ x) (put_between new rows i b.1 s f)

take_above : (floor : ℕ) (rows : List (ℕ × Row)) (i : ℕ) → RisesAbove floor rows → RisesAbove floor (take i rows)
take_above floor [] zero a = tt
take_above floor [] (suc i) a = tt
take_above floor (r ∷ rows) zero a = tt
take_above floor (r ∷ rows) (suc i) a = (a.0, take_above r.0 rows i a.1)

-- the first rows rise as all do
pub take_rises : (rows : List (ℕ × Row)) (i : ℕ) → Rises rows → Rises (take i rows)
take_rises [] zero a = tt
take_rises [] (suc i) a = tt
take_rises (r ∷ rows) zero a = tt
take_rises (r ∷ rows) (suc i) a = take_above r.0 rows i a

-- a row below the first of some stays in front of them
put_front : (new r : ℕ × Row) (xs ys : List (ℕ × Row)) → new.0 < r.0 → put_row new (xs ++ r ∷ ys) ≡ put_row new xs ++ r ∷ ys
put_front new r [] ys h =
    cond-false (eqb r.0 new.0) (new ∷ ys) (cond (ltb new.0 r.0) (new ∷ r ∷ ys) (r ∷ put_row new ys)) (ne_eqb r.0 new.0 (λ q. omega arith))
    ∙ cond-true (ltb new.0 r.0) (new ∷ r ∷ ys) (r ∷ put_row new ys) (lt-ltb new.0 r.0 h)
put_front new r (x ∷ xs) ys h =
    let tail : put_row new (xs ++ r ∷ ys) ≡ put_row new xs ++ r ∷ ys = put_front new r xs ys h in
    let G : List (ℕ × Row) → Type 0 = λ (l : List (ℕ × Row)). cond (eqb x.0 new.0) (new ∷ xs ++ r ∷ ys)
    (cond (ltb new.0 x.0) (new ∷ x ∷ xs ++ r ∷ ys) (x ∷ put_row new (xs ++ r ∷ ys))) ≡ l ++ r ∷ ys in
    cond_both (eqb x.0 new.0) (new ∷ xs) (cond (ltb new.0 x.0) (new ∷ x ∷ xs) (x ∷ put_row new xs)) G
    (λ t. cond-true (eqb x.0 new.0) (new ∷ xs ++ r ∷ ys) (cond (ltb new.0 x.0) (new ∷ x ∷ xs ++ r ∷ ys) (x ∷ put_row new (xs ++ r ∷ ys))) t)
    (λ f. cond_both (ltb new.0 x.0) (new ∷ x ∷ xs) (x ∷ put_row new xs) G
    (λ t. cond-false (eqb x.0 new.0) (new ∷ xs ++ r ∷ ys) (cond (ltb new.0 x.0) (new ∷ x ∷ xs ++ r ∷ ys) (x ∷ put_row new (xs ++ r ∷ ys))) f
    ∙ cond-true (ltb new.0 x.0) (new ∷ x ∷ xs ++ r ∷ ys) (x ∷ put_row new (xs ++ r ∷ ys)) t)
    (λ g. cond-false (eqb x.0 new.0) (new ∷ xs ++ r ∷ ys) (cond (ltb new.0 x.0) (new ∷ x ∷ xs ++ r ∷ ys) (x ∷ put_row new (xs ++ r ∷ ys))) f
    ∙ cond-false (ltb new.0 x.0) (new ∷ x ∷ xs ++ r ∷ ys) (x ∷ put_row new (xs ++ r ∷ ys)) g
    ∙ ap (λ (l : List (ℕ × Row)). x ∷ l) tail))

-- the same of rows that are all below it
pub puts_front : (new : List (ℕ × Row)) (r : ℕ × Row) (xs ys : List (ℕ × Row)) → AllBelow r.0 new → put_rows new (xs ++ r ∷ ys) ≡ put_rows new xs ++ r ∷ ys
puts_front [] r xs ys b = refl
puts_front (n ∷ new) r xs ys b = ap (put_row n) (puts_front new r xs ys b.1) ∙ put_front n r (put_rows new xs) ys b.0

above_lower : (floor : ℕ) (xs : List (ℕ × Row)) (e : ℕ × Row) → RisesAbove floor (xs ++ e ∷ []) → (floor < e.0) × AllBelow e.0 xs
above_lower floor [] e a = (a.0, tt)
above_lower floor (x ∷ xs) e a =
    let k = above_lower x.0 xs e a.1 in
    let l : x.0 < e.0 = k.0 in
    let m : floor < x.0 = a.0 in
    (omega arith, (l, k.1))

-- of rows that rise all others are below the last one
pub last_above : (xs : List (ℕ × Row)) (e : ℕ × Row) → Rises (xs ++ e ∷ []) → AllBelow e.0 xs
last_above [] e a = tt
last_above (x ∷ xs) e a = above_lower x.0 xs e a

init_above : (floor : ℕ) (xs ys : List (ℕ × Row)) → RisesAbove floor (xs ++ ys) → RisesAbove floor xs
init_above floor [] ys a = tt
init_above floor (x ∷ xs) ys a = (a.0, init_above x.0 xs ys a.1)

pub init_rises : (xs ys : List (ℕ × Row)) → Rises (xs ++ ys) → Rises xs
init_rises [] ys a = tt
init_rises (x ∷ xs) ys a = init_above x.0 xs ys a

pub got_none : (rows : List (ℕ × Row)) (i : ℕ) → length rows ≤ i → slice_get rows i ≡ None
got_none [] i h = refl
got_none (r ∷ rows) zero h = absurd (omega arith)
got_none (r ∷ rows) (suc i) h = got_none rows i (omega arith)

pub got_some : (rows : List (ℕ × Row)) (i : ℕ) (e : ℕ × Row) → i < length rows → e ≡ get_or rows i e → slice_get rows i ≡ Some e
got_some [] i e h q = absurd (omega arith)
got_some (r ∷ rows) zero e h q = ap Some (sym q)
got_some (r ∷ rows) (suc i) e h q = got_some rows i e (omega arith) q

-- what is found at the place of a UID
pub row_none : (uid : ℕ) (rows : List (ℕ × Row)) (i : ℕ) → AllBelow uid (take i rows) → slice_get rows i ≡ None → row_at uid rows ≡ None
row_none uid [] i b e = refl
row_none uid (r ∷ rows) zero b e = absurd (cc)
row_none uid (r ∷ rows) (suc i) b e =
    let l : r.0 < uid = b.0 in
    cond-false (eqb r.0 uid) (Some r.1) (row_at uid rows) (ne_eqb r.0 uid (λ q. omega arith)) ∙ row_none uid rows i b.1 e

pub row_same : (uid : ℕ) (rows : List (ℕ × Row)) (i : ℕ) (e : ℕ × Row) → AllBelow uid (take i rows) → slice_get rows i ≡ Some e →
    e.0 ≡ uid → row_at uid rows ≡ Some e.1
row_same uid [] zero e b h q = absurd (cc)
row_same uid [] (suc i) e b h q = absurd (cc)
row_same uid (r ∷ rows) zero e b h q =
    let same : r ≡ e = cc in
    subst (λ (x : ℕ × Row). row_at uid (x ∷ rows) ≡ Some e.1) (sym same) (cond-true (eqb e.0 uid) (Some e.1) (row_at uid rows) (eq-eqb e.0 uid q))
row_same uid (r ∷ rows) (suc i) e b h q =
    let l : r.0 < uid = b.0 in
    cond-false (eqb r.0 uid) (Some r.1) (row_at uid rows) (ne_eqb r.0 uid (λ q. omega arith)) ∙ row_same uid rows i e b.1 h q

pub row_other : (uid : ℕ) (rows : List (ℕ × Row)) (i : ℕ) (e : ℕ × Row) → Rises rows → AllBelow uid (take i rows) →
    StartsFrom uid (drop i rows) → slice_get rows i ≡ Some e → (e.0 ≡ uid → ⊥) → row_at uid rows ≡ None
row_other uid [] zero e a b s h n = refl
row_other uid [] (suc i) e a b s h n = refl
row_other uid (r ∷ rows) zero e a b s h n =
    let same : r ≡ e = cc in
    let other : r.0 ≡ uid → ⊥ = λ q. n (sym (ap (λ (x : ℕ × Row). x.0) same) ∙ q) in
    let at_least : uid ≤ r.0 = s in
    cond-false (eqb r.0 uid) (Some r.1) (row_at uid rows) (ne_eqb r.0 uid other) ∙ absent uid r.0 rows (omega arith) a
row_other uid (r ∷ rows) (suc i) e a b s h n =
    let l : r.0 < uid = b.0 in
    cond-false (eqb r.0 uid) (Some r.1) (row_at uid rows) (ne_eqb r.0 uid (λ q. omega arith)) ∙ row_other uid rows i e (above_rises r.0 rows a) b.1 s h n
