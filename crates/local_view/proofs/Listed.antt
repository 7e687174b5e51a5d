-- The rows of the view, by what is left of the cached rows and of the actions' messages.
use Rattle.std.proofs.Common.{◌≡◌, ℕ, suc, ◌+◌, ◌<◌, ◌≤◌, List, [], ◌∷◌, ◌++◌, length, get_or, drop, Option, Some, None, sym, ◌∙◌, ap, subst, add-one}
use Rattle.std.proofs.Common.{append_assoc, append-nil, drop-cons}
use Rattle.std.proofs.Math.ListN.{drop_of_length-le}
use Rattle.std.specs.List.{AllByRecursion, flat_map}
use Rattle.mailbox_cache.specs.Rows.{row_at, Rises}
use Rattle.mailbox_cache.specs.declared.cache.Cache.{Cache}
use Rattle.mailbox_cache.specs.declared.row.Row.{Row}
use Rattle.action_queue.specs.Book.{Meaning, known_at, cache_at, cache_of}
use Rattle.action_queue.specs.declared.book.Known.{Known}
use Rattle.action_queue.specs.declared.queued.Queued.{Queued}
use Rattle.dummy_ids.specs.Places.{makes_into}
use Rattle.local_view.specs.Sights.{Sights, row_in, seen}
use Rattle.local_view.specs.Listing.{listed, listed_row, listed_rows, listed_made, listed_dummies, view}
use Rattle.local_view.specs.Touching.{place_of, kept_at, left_in, left_row, seen_so_far, AreSame}
use Rattle.local_view.specs.declared.seen.Ident.TheVariants as ident
use Rattle.local_view.specs.declared.seen.Seen.{Seen}
use Rattle.local_view.specs.declared.touched.Touched.{Touched}
use Rattle.local_view.proofs.Likeness.{rows_alike, dummies_alike}
use Rattle.local_view.proofs.Rows.{each_found, same_lists}
use Rattle.local_view.proofs.Touches.{seen_at}

each : {A : Type 0} (f g : (ℕ × Row) → A) (all rows : List (ℕ × Row)) → ((r : ℕ × Row) → row_at r.0 all ≡ Some r.1 → f r ≡ g r) →
    AllByRecursion (λ r. row_at r.0 all ≡ Some r.1) rows → AllByRecursion (λ r. f r ≡ g r) rows
each f g all [] same a = tt
each f g all (r ∷ rows) same a = (same r a.0, each f g all rows same a.1)

module _ (boxes : List Known) (touched : Touched) (name : List ℕ) where
  row_listed : (at : ℕ) (known : Known) (cache : Cache) → place_of name boxes ≡ Some at → known_at name boxes ≡ Some known → known.cache ≡ Some cache →
      (r : ℕ × Row) → row_at r.0 cache.rows ≡ Some r.1 → left_row touched at r ≡ listed_row (seen_so_far boxes touched) name r
  row_listed at known cache place is has r found =
      sym (ap (listed (ident.Real r.0)) (seen_at boxes touched name r.0 (Some at) (Some known) place is
      ∙ ap (λ c. left_in (kept_at touched (Some at) r.0) (row_in r.0 c)) has ∙ ap (left_in (kept_at touched (Some at) r.0)) found))

  -- the rows that are left are those of the view
  pub rows_listed : (at : ℕ) (known : Known) (cache : Cache) → place_of name boxes ≡ Some at → known_at name boxes ≡ Some known →
      known.cache ≡ Some cache → Rises cache.rows →
      flat_map (left_row touched at) cache.rows ≡ listed_rows (seen_so_far boxes touched) name (cache_at name boxes)
  rows_listed at known cache place is has up =
      same_lists (left_row touched at) (listed_row (seen_so_far boxes touched) name) cache.rows
      (each (left_row touched at) (listed_row (seen_so_far boxes touched) name) cache.rows cache.rows (row_listed at known cache place is has)
      (each_found cache.rows up))
      ∙ sym (ap (listed_rows (seen_so_far boxes touched) name) (ap cache_of is ∙ has))

-- a mailbox without a cache has no rows
pub no_rows : (sights : Sights) (name : List ℕ) (cache : Option Cache) (rows : List Seen) → cache ≡ None → rows ≡ rows ++ listed_rows sights name cache
no_rows sights name cache rows none = sym (ap (λ c. rows ++ listed_rows sights name c) none ∙ append-nil rows)

next_listed : (sights : Sights) (name : List ℕ) (n : ℕ) (rest later : List Queued) (q : Queued) (now rows all : List Seen) → rest ≡ q ∷ later →
    now ≡ rows ++ listed_made sights n (makes_into name q.action) q.outcome → rows ++ listed_dummies sights name n rest ≡ all →
    now ++ listed_dummies sights name (suc n) later ≡ all
next_listed sights name n rest later q now rows all is made before =
    ap (λ l. l ++ listed_dummies sights name (suc n) later) made
    ∙ append_assoc rows (listed_made sights n (makes_into name q.action) q.outcome) (listed_dummies sights name (suc n) later)
    ∙ ap (λ l. rows ++ listed_dummies sights name n l) (sym is) ∙ before

module _ (sights : Sights) (name : List ℕ) (at : ℕ) (queue : List Queued) (all : List Seen) where
  -- the row of an action's message is the next one
  pub next_dummy : (id : ℕ) (q : Queued) (rows now : List Seen) → id ≡ at + 1 → at < length queue → q ≡ get_or queue at q →
      now ≡ rows ++ listed_made sights id (makes_into name q.action) q.outcome → rows ++ listed_dummies sights name (suc at) (drop at queue) ≡ all →
      now ++ listed_dummies sights name (suc (at + 1)) (drop (at + 1) queue) ≡ all
  next_dummy id q rows now number within is made before =
      subst (λ n. now ++ listed_dummies sights name (suc n) (drop n queue) ≡ all) (sym (add-one at))
      (next_listed sights name (suc at) (drop at queue) (drop (suc at) queue) q now rows all
      (drop-cons queue at q within ∙ ap (λ x. x ∷ drop (suc at) queue) (sym is))
      (subst (λ n. now ≡ rows ++ listed_made sights n (makes_into name q.action) q.outcome) (number ∙ add-one at) made) before)

  -- and behind the last action nothing is left
  pub all_dummies : (rows : List Seen) → length queue ≤ at → rows ++ listed_dummies sights name (suc at) (drop at queue) ≡ all → rows ≡ all
  all_dummies rows past before =
      sym (append-nil rows) ∙ ap (λ l. rows ++ listed_dummies sights name (suc at) l) (sym (drop_of_length-le queue past)) ∙ before

-- the rows of what is seen of each message are the view
pub is_view : (b : Meaning) (name : List ℕ) (sights : Sights) (first second third : List Seen) → first ≡ [] →
    second ≡ first ++ listed_rows sights name (cache_at name b.boxes) → third ≡ second ++ listed_dummies sights name 1 b.queue →
    AreSame sights (seen b) → third ≡ view b name
is_view b name sights first second third none rows dummies same =
    dummies ∙ ap (λ l. l ++ listed_dummies sights name 1 b.queue) (rows ∙ ap (λ l. l ++ listed_rows sights name (cache_at name b.boxes)) none
    ∙ rows_alike sights (seen b) name (cache_at name b.boxes) same)
    ∙ ap (λ l. listed_rows (seen b) name (cache_at name b.boxes) ++ l) (dummies_alike sights (seen b) name 1 b.queue same)
