-- What is in the view of a mailbox: a UID is one of the mailbox's cache, and a dummy is made by a move or an append of the queue.
use Rattle.std.proofs.Common.{◌≡◌, ℕ, suc, ◌≤◌, ◌-◌, Bool, true, false, not, cond, eqb, List, [], ◌∷◌, ◌++◌, Option, Some, None, slice_get, refl, sym}
use Rattle.std.proofs.Common.{◌∙◌, ap, subst, ⊎_elim, arith}
use Rattle.std.specs.Prelude.{◌==◌, ◌⊎◌, IsSome, is_some}
use Rattle.std.specs.List.{flat_map}
use Rattle.std.proofs.lemmas.Bool.{cond-true, eq-eqb, eqb-true, or_cases}
use Rattle.std.proofs.lemmas.List.Folds.{list_any-append}
use Rattle.mailbox_cache.specs.Rows.{row_at}
use Rattle.mailbox_cache.specs.declared.cache.Cache.{Cache}
use Rattle.mailbox_cache.specs.declared.row.Row.{Row}
use Rattle.action_queue.specs.Book.{Meaning, cache_at}
use Rattle.action_queue.specs.Rules.{makes, makes_queued, is_bad_target}
use Rattle.action_queue.specs.declared.action.Action.{Action}
use Rattle.action_queue.specs.declared.action.Action.TheVariants as actions
use Rattle.action_queue.specs.declared.outcome.Outcome.{Outcome}
use Rattle.action_queue.specs.declared.queued.Queued.{Queued}
use Rattle.action_queue.specs.declared.target.Target.TheVariants as targets
use Rattle.dummy_ids.specs.Places.{makes_into}
use Rattle.local_view.specs.Listing.{listed, listed_row, listed_rows, listed_made, listed_dummies, view, shows, has_row}
use Rattle.local_view.specs.Sights.{Sight, Sights, row_in, seen}
use Rattle.local_view.specs.declared.message.Message.TheVariants as message
use Rattle.local_view.specs.declared.seen.Ident.{Ident}
use Rattle.local_view.specs.declared.seen.Ident.TheVariants as ident
use Rattle.local_view.specs.declared.seen.Seen.{Seen}

has_either : (id : Ident) (xs ys : List Seen) → has_row id (xs ++ ys) ≡ true → (has_row id xs ≡ true) ⊎ (has_row id ys ≡ true)
has_either id xs ys has = or_cases (has_row id xs) (has_row id ys) (sym (list_any-append (shows id) xs ys) ∙ has)

real_row : (uid number : ℕ) (o : Option Sight) → has_row (ident.Real uid) (listed (ident.Real number) o) ≡ true → uid ≡ number
real_row uid number None has = absurd (cc)
real_row uid number (Some sight) has = ⊎_elim (λ e. eqb-true uid number e) (λ e. absurd (cc)) (or_cases (uid == number) false has)

dummy_row : (n number : ℕ) (o : Option Sight) → has_row (ident.Dummy n) (listed (ident.Dummy number) o) ≡ true → n ≡ number
dummy_row n number None has = absurd (cc)
dummy_row n number (Some sight) has = ⊎_elim (λ e. eqb-true n number e) (λ e. absurd (cc)) (or_cases (n == number) false has)

no_dummy_row : (n number : ℕ) (o : Option Sight) → has_row (ident.Dummy n) (listed (ident.Real number) o) ≡ true → ⊥
no_dummy_row n number None has = absurd (cc)
no_dummy_row n number (Some sight) has = absurd (cc)

no_real_row : (uid number : ℕ) (o : Option Sight) → has_row (ident.Real uid) (listed (ident.Dummy number) o) ≡ true → ⊥
no_real_row uid number None has = absurd (cc)
no_real_row uid number (Some sight) has = absurd (cc)

either_way : {A : Type 0} (b : Bool) (x : A) (o : Option A) → IsSome o → IsSome (cond b (Some x) o)
either_way true x o some = refl
either_way false x o some = some

module _ (sights : Sights) (name : List ℕ) where
  rows_hold : (uid : ℕ) (rows : List (ℕ × Row)) → has_row (ident.Real uid) (flat_map (listed_row sights name) rows) ≡ true → IsSome (row_at uid rows)
  rows_hold uid [] has = absurd (cc)
  rows_hold uid (r ∷ rows) has =
      ⊎_elim
      (λ e. ap is_some (cond-true (eqb r.0 uid) (Some r.1) (row_at uid rows)
      (eq-eqb r.0 uid (sym (real_row uid r.0 (sights (message.Cached name r.0)) e)))))
      (λ e. either_way (eqb r.0 uid) r.1 (row_at uid rows) (rows_hold uid rows e))
      (has_either (ident.Real uid) (listed_row sights name r) (flat_map (listed_row sights name) rows) has)

  cache_holds : (uid : ℕ) (cache : Option Cache) → has_row (ident.Real uid) (listed_rows sights name cache) ≡ true → IsSome (row_in uid cache)
  cache_holds uid None has = absurd (cc)
  cache_holds uid (Some cache) has = rows_hold uid cache.rows has

  no_dummies : (n : ℕ) (rows : List (ℕ × Row)) → has_row (ident.Dummy n) (flat_map (listed_row sights name) rows) ≡ true → ⊥
  no_dummies n [] has = absurd (cc)
  no_dummies n (r ∷ rows) has =
      ⊎_elim (λ e. no_dummy_row n r.0 (sights (message.Cached name r.0)) e) (λ e. no_dummies n rows e)
      (has_either (ident.Dummy n) (listed_row sights name r) (flat_map (listed_row sights name) rows) has)

  no_dummy_cached : (n : ℕ) (cache : Option Cache) → has_row (ident.Dummy n) (listed_rows sights name cache) ≡ true → ⊥
  no_dummy_cached n None has = absurd (cc)
  no_dummy_cached n (Some cache) has = no_dummies n cache.rows has

  real_not_made : (uid k : ℕ) (into : Bool) (outcome : Option Outcome) → has_row (ident.Real uid) (listed_made sights k into outcome) ≡ true → ⊥
  real_not_made uid k false outcome has = absurd (cc)
  real_not_made uid k true (Some outcome) has = absurd (cc)
  real_not_made uid k true None has = no_real_row uid k (sights (message.Made k)) has

  real_no_dummy : (uid k : ℕ) (queue : List Queued) → has_row (ident.Real uid) (listed_dummies sights name k queue) ≡ true → ⊥
  real_no_dummy uid k [] has = absurd (cc)
  real_no_dummy uid k (q ∷ qs) has =
      ⊎_elim (λ e. real_not_made uid k (makes_into name q.action) q.outcome e) (λ e. real_no_dummy uid (suc k) qs e)
      (has_either (ident.Real uid) (listed_made sights k (makes_into name q.action) q.outcome) (listed_dummies sights name (suc k) qs) has)

  made_here : (n k : ℕ) (into : Bool) (outcome : Option Outcome) → has_row (ident.Dummy n) (listed_made sights k into outcome) ≡ true →
      (n ≡ k) × (into ≡ true)
  made_here n k false outcome has = absurd (cc)
  made_here n k true (Some outcome) has = absurd (cc)
  made_here n k true None has = (dummy_row n k (sights (message.Made k)) has, refl)

  makes_one : (action : Action) → makes_into name action ≡ true → makes action ≡ true
  makes_one (actions.Flag target add flags) into = absurd (cc)
  makes_one (actions.Move target to) into = refl
  makes_one (actions.Append to flags text id) into = refl

  -- the action of a dummy's number makes it
  dummies_made : (n k : ℕ) (queue : List Queued) → has_row (ident.Dummy n) (listed_dummies sights name k queue) ≡ true →
      (k ≤ n) × (makes_queued (slice_get queue (n - k)) ≡ true)
  dummies_made n k [] has = absurd (cc)
  dummies_made n k (q ∷ qs) has =
      ⊎_elim
      (λ e. let parts = made_here n k (makes_into name q.action) q.outcome e in
      let none : n - k ≡ 0 = omega (arith, parts.0) in
      (omega (arith, parts.0), ap (λ i. makes_queued (slice_get (q ∷ qs) i)) none ∙ makes_one q.action parts.1))
      (λ e. let later = dummies_made n (suc k) qs e in
      let more : n - k ≡ suc (n - suc k) = omega (arith, later.0) in
      (omega (arith, later.0), ap (λ i. makes_queued (slice_get (q ∷ qs) i)) more ∙ later.1))
      (has_either (ident.Dummy n) (listed_made sights k (makes_into name q.action) q.outcome) (listed_dummies sights name (suc k) qs) has)

module _ (b : Meaning) (name : List ℕ) where
  -- a UID that is in the view is one of the mailbox's cache
  pub cached_there : (uid : ℕ) → has_row (ident.Real uid) (view b name) ≡ true → IsSome (row_in uid (cache_at name b.boxes))
  cached_there uid has =
      ⊎_elim (λ e. cache_holds (seen b) name uid (cache_at name b.boxes) e) (λ e. absurd (real_no_dummy (seen b) name uid 1 b.queue e))
      (has_either (ident.Real uid) (listed_rows (seen b) name (cache_at name b.boxes)) (listed_dummies (seen b) name 1 b.queue) has)

  -- a dummy that is in the view is made by a move or an append of the queue
  pub made_there : (n : ℕ) → has_row (ident.Dummy n) (view b name) ≡ true → is_bad_target b.queue (targets.Dummy n) ≡ false
  made_there n has =
      ⊎_elim (λ e. absurd (no_dummy_cached (seen b) name n (cache_at name b.boxes) e)) (λ e. ap not (dummies_made (seen b) name n 1 b.queue e).1)
      (has_either (ident.Dummy n) (listed_rows (seen b) name (cache_at name b.boxes)) (listed_dummies (seen b) name 1 b.queue) has)

  -- both, of an answer
  pub shown_cached : (id : Ident) (is : Bool) → is ≡ has_row id (view b name) → is ≡ true → (uid : ℕ) → id ≡ ident.Real uid →
      IsSome (row_in uid (cache_at name b.boxes))
  shown_cached id is value has uid real = cached_there uid (subst (λ (i : Ident). has_row i (view b name) ≡ true) real (sym value ∙ has))

  pub shown_made : (id : Ident) (is : Bool) → is ≡ has_row id (view b name) → is ≡ true → (n : ℕ) → id ≡ ident.Dummy n →
      is_bad_target b.queue (targets.Dummy n) ≡ false
  shown_made id is value has n dummy = made_there n (subst (λ (i : Ident). has_row i (view b name) ≡ true) dummy (sym value ∙ has))
