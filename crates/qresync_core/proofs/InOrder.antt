-- Rows that are put in order, of which the first of each UID is kept.
use Rattle.std.proofs.Common.{◌≡◌, ◌≢◌, ℕ, suc, ◌<◌, ◌≤◌, Bool, true, false, cond, eqb, ◌==◌}
use Rattle.std.proofs.Common.{List, [], ◌∷◌, Option, Some, refl, sym, ◌∙◌, ap, subst, arith, filter}
use Rattle.std.specs.List.{dedup, dedup_from}
use Rattle.std.specs.List.Sorted.{IsNonDecreasingBy, IsStableByKey, ties}
use Rattle.std.specs.Ordering.{is_lt, nat_cmp}
use Rattle.std.proofs.lemmas.Bool.{cond_both, eqb-true, eqb-false}
use Rattle.std.proofs.lemmas.Bool.Decides.{nat_tests}
use Rattle.mailbox_cache.specs.Rows.{row_at, Rises, RisesAbove}
use Rattle.mailbox_cache.specs.declared.row.Row.{Row}

abbrev pub uid_of : ℕ × Row → ℕ
uid_of row = row.0

abbrev pub same_uid : ℕ × Row → ℕ × Row → Bool
same_uid x y = x.0 == y.0

abbrev is_below : ℕ × Row → ℕ × Row → Bool
is_below x y = is_lt (nat_cmp (uid_of x) (uid_of y))

tied : (x y : ℕ × Row) → y.0 ≡ x.0 → ties is_below x y ≡ true
tied x y e = grind (arith, nat_tests, e)

-- the rows of a UID are found among those that tie with one of them
among_ties : (x : ℕ × Row) (rows : List (ℕ × Row)) → row_at x.0 (filter (ties is_below x) rows) ≡ row_at x.0 rows
among_ties x [] = refl
among_ties x (r ∷ rs) =
    cond_both (ties is_below x r) (r ∷ filter (ties is_below x) rs) (filter (ties is_below x) rs) (λ (l : List (ℕ × Row)). row_at x.0 l ≡ row_at x.0 (r ∷ rs))
    (λ t. ap (λ (o : Option Row). cond (eqb r.0 x.0) (Some r.1) o) (among_ties x rs))
    (λ f. cond_both (eqb r.0 x.0) (Some r.1) (row_at x.0 rs) (λ (o : Option Row). row_at x.0 (filter (ties is_below x) rs) ≡ o)
    (λ t. let e = tied x r (eqb-true r.0 x.0 t) in absurd (cc))
    (λ _. among_ties x rs))

-- a stable sort leaves the first row of each UID
pub sorted_row : (xs ys : List (ℕ × Row)) → IsStableByKey uid_of nat_cmp xs ys → (uid : ℕ) → row_at uid ys ≡ row_at uid xs
sorted_row xs ys s uid =
    let x : ℕ × Row = (uid, record { flags = []; modseq = 0 }) in
    sym (among_ties x ys) ∙ ap (row_at uid) (s x) ∙ among_ties x xs

twice : (b : Bool) (v w : Row) (o : Option Row) → cond b (Some v) o ≡ cond b (Some v) (cond b (Some w) o)
twice true v w o = refl
twice false v w o = refl

two_first : (a b uid : ℕ) (v w : Row) (o : Option Row) → a ≡ b → cond (eqb b uid) (Some v) o ≡ cond (eqb b uid) (Some v) (cond (eqb a uid) (Some w) o)
two_first a b uid v w o e =
    subst (λ (k : ℕ). cond (eqb b uid) (Some v) o ≡ cond (eqb b uid) (Some v) (cond (eqb k uid) (Some w) o)) (sym e) (twice (eqb b uid) v w o)

-- of equal neighbours the first is kept
first_kept : (uid : ℕ) (k : ℕ × Row) (rows : List (ℕ × Row)) → row_at uid (dedup_from same_uid k rows) ≡ row_at uid (k ∷ rows)
first_kept uid k [] = refl
first_kept uid k (x ∷ xs) =
    cond_both (same_uid x k) (dedup_from same_uid k xs) (k ∷ dedup_from same_uid x xs) (λ (l : List (ℕ × Row)). row_at uid l ≡ row_at uid (k ∷ x ∷ xs))
    (λ t. first_kept uid k xs ∙ two_first x.0 k.0 uid k.1 x.1 (row_at uid xs) (eqb-true x.0 k.0 t))
    (λ f. ap (λ (o : Option Row). cond (eqb k.0 uid) (Some k.1) o) (first_kept uid x xs))

pub dedup_row : (uid : ℕ) (rows : List (ℕ × Row)) → row_at uid (dedup same_uid rows) ≡ row_at uid rows
dedup_row uid [] = refl
dedup_row uid (r ∷ rs) = first_kept uid r rs

-- no UID is below the one before it
abbrev Climbs : ℕ → List (ℕ × Row) → Type 0
Climbs least [] = Unit {0}
Climbs least (r ∷ rs) = (least ≤ r.0) × Climbs r.0 rs

climbs : (k : ℕ × Row) (rows : List (ℕ × Row)) → IsNonDecreasingBy uid_of (k ∷ rows) → Climbs k.0 rows
climbs k [] n = tt
climbs k (r ∷ rs) n = (n 0 1 k (omega arith) (omega arith), climbs r rs (λ i j d le below. n (suc i) (suc j) d (omega arith) (omega arith)))

kept_above : (floor : ℕ) (k : ℕ × Row) (rows : List (ℕ × Row)) → floor < k.0 → Climbs k.0 rows → RisesAbove floor (dedup_from same_uid k rows)
kept_above floor k [] l c = (l, tt)
kept_above floor k (x ∷ xs) l c =
    cond_both (same_uid x k) (dedup_from same_uid k xs) (k ∷ dedup_from same_uid x xs) (RisesAbove floor)
    (λ t. kept_above floor k xs l (subst (λ (n : ℕ). Climbs n xs) (eqb-true x.0 k.0 t) c.1))
    (λ f. (l, kept_above k.0 x xs (let ne : x.0 ≢ k.0 = eqb-false x.0 k.0 f in let le : k.0 ≤ x.0 = c.0 in omega arith) c.1))

kept_rises : (k : ℕ × Row) (rows : List (ℕ × Row)) → Climbs k.0 rows → Rises (dedup_from same_uid k rows)
kept_rises k [] c = tt
kept_rises k (x ∷ xs) c =
    cond_both (same_uid x k) (dedup_from same_uid k xs) (k ∷ dedup_from same_uid x xs) Rises
    (λ t. kept_rises k xs (subst (λ (n : ℕ). Climbs n xs) (eqb-true x.0 k.0 t) c.1))
    (λ f. kept_above k.0 x xs (let ne : x.0 ≢ k.0 = eqb-false x.0 k.0 f in let le : k.0 ≤ x.0 = c.0 in omega arith) c.1)

pub dedup_rises : (rows : List (ℕ × Row)) → IsNonDecreasingBy uid_of rows → Rises (dedup same_uid rows)
dedup_rises [] n = tt
dedup_rises (r ∷ rs) n = kept_rises r rs (climbs r rs n)
