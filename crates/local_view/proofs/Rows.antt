-- Rows that rise are each found by their UID; so a pass over them meets what a look-up gives.
use Rattle.std.proofs.Common.{◌≡◌, ℕ, ◌<◌, eqb, List, [], ◌∷◌, ◌++◌, Some, refl, ◌∙◌, ap, arith}
use Rattle.std.specs.List.{AllByRecursion, flat_map}
use Rattle.std.proofs.lemmas.Bool.{cond-true, cond-false, eq-eqb, ne_eqb}
use Rattle.mailbox_cache.specs.Rows.{row_at, RisesAbove, Rises}
use Rattle.mailbox_cache.specs.declared.row.Row.{Row}

-- a list in front of rows that are above it doesn't hide them
above : (floor : ℕ) (rows : List (ℕ × Row)) → RisesAbove floor rows → AllByRecursion (λ r. floor < r.0) rows
above floor [] a = tt
above floor (r ∷ rows) a = (a.0, lifted floor r.0 rows a.0 (above r.0 rows a.1)) where
  lifted : (low high : ℕ) (rows : List (ℕ × Row)) → low < high → AllByRecursion (λ r. high < r.0) rows → AllByRecursion (λ r. low < r.0) rows
  lifted low high [] l a = tt
  lifted low high (r ∷ rows) l a = (omega (arith, l, a.0), lifted low high rows l a.1)

hidden : (first : ℕ × Row) (all rows : List (ℕ × Row)) → AllByRecursion (λ r. first.0 < r.0) rows → AllByRecursion (λ r. row_at r.0 all ≡ Some r.1) rows →
    AllByRecursion (λ r. row_at r.0 (first ∷ all) ≡ Some r.1) rows
hidden first all [] a f = tt
hidden first all (r ∷ rows) a f =
    (cond-false (eqb first.0 r.0) (Some first.1) (row_at r.0 all) (ne_eqb first.0 r.0 (λ e. omega (arith, e, a.0))) ∙ f.0, hidden first all rows a.1 f.1)

found_above : (floor : ℕ) (rows : List (ℕ × Row)) → RisesAbove floor rows → AllByRecursion (λ r. row_at r.0 rows ≡ Some r.1) rows
found_above floor [] a = tt
found_above floor (r ∷ rows) a =
    (cond-true (eqb r.0 r.0) (Some r.1) (row_at r.0 rows) (eq-eqb r.0 r.0 refl), hidden r rows rows (above r.0 rows a.1) (found_above r.0 rows a.1))

-- each row is found by its UID
pub each_found : (rows : List (ℕ × Row)) → Rises rows → AllByRecursion (λ r. row_at r.0 rows ≡ Some r.1) rows
each_found [] a = tt
each_found (r ∷ rows) a =
    (cond-true (eqb r.0 r.0) (Some r.1) (row_at r.0 rows) (eq-eqb r.0 r.0 refl), hidden r rows rows (above r.0 rows a) (found_above r.0 rows a))

-- where two functions give the same of each item, so do their lists
pub same_lists : {X A : Type 0} (f g : X → List A) (xs : List X) → AllByRecursion (λ x. f x ≡ g x) xs → flat_map f xs ≡ flat_map g xs
same_lists f g [] a = refl
same_lists f g (x ∷ xs) a = ap (λ l. l ++ flat_map f xs) a.0 ∙ ap (λ l. g x ++ l) (same_lists f g xs a.1)
