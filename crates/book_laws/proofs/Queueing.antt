-- The queue and the caches of a book over events.
use Rattle.std.proofs.Common.{◌≡◌, ◌⊎◌, inl, inr, ℕ, zero, suc, ◌-◌, ◌≤◌, Bool, true, false, List, [], ◌∷◌, ◌++◌, length, Option, Some, None}
use Rattle.std.proofs.Common.{refl, sym, ◌∙◌, ap, subst, arith}
use Rattle.std.specs.Prelude.{bytes_eq, slice_get, ◌&&◌, ◌==◌}
use Rattle.std.proofs.lemmas.Bool.{cond_both, eq-eqb, eqb-true}
use Rattle.std.proofs.lemmas.Option.{same_Some}
use Rattle.imap_model.proofs.Finding.{cond_two, same_name, names_same}
use Rattle.mailbox_cache.specs.declared.cache.Cache.{Cache}
use Rattle.action_queue.specs.Queues.{due, settled_then, settled, tried, change_first, change_queued}
use Rattle.action_queue.specs.Targets.{landed, landed_queued, resolved, is_at}
use Rattle.action_queue.specs.Rules.{suits}
use Rattle.action_queue.specs.Book.{known_at, cache_of, cache_at, put_cache}
use Rattle.action_queue.specs.declared.target.Target.{Target}
use Rattle.action_queue.specs.declared.target.Target.TheVariants as targets
use Rattle.action_queue.specs.declared.action.Action.{Action}
use Rattle.action_queue.specs.declared.action.Action.TheVariants as actions
use Rattle.action_queue.specs.declared.intent.Intent.{Intent}
use Rattle.action_queue.specs.declared.intent.Intent.TheVariants as intents
use Rattle.action_queue.specs.declared.outcome.Outcome.{Outcome}
use Rattle.action_queue.specs.declared.queued.Queued.{Queued}
use Rattle.action_queue.specs.declared.found.Found.{Found}
use Rattle.action_queue.specs.declared.found.Found.TheVariants as found
use Rattle.action_queue.specs.declared.book.Known.{Known}

-- an action is in its place still, and has its outcome still
pub record Stays (q : Queued) (queue : List Queued) (i : ℕ) : Type 0 where
  pub queued : Queued
  pub there : slice_get queue i ≡ Some queued
  pub action : queued.action ≡ q.action
  pub outcome : (o : Outcome) → q.outcome ≡ Some o → queued.outcome ≡ Some o

-- a queue goes on: no action changes, and no outcome
pub record QueueGrows (old new : List Queued) : Type 0 where
  pub each : (i : ℕ) (q : Queued) → slice_get old i ≡ Some q → Stays q new i

push_further : {A : Type 0} {x y : A} {i n : ℕ} {P : Type 0} → P ⊎ ((i ≡ n) × (y ≡ x)) → P ⊎ ((suc i ≡ suc n) × (y ≡ x))
push_further (inl e) = inl e
push_further (inr e) = inr (ap suc e.0, e.1)

-- a list with one more at its end
pub get_push : {A : Type 0} (xs : List A) (x y : A) (i : ℕ) → slice_get (xs ++ x ∷ []) i ≡ Some y → (slice_get xs i ≡ Some y) ⊎ ((i ≡ length xs) × (y ≡ x))
get_push [] x y zero = λ e. inr (refl, sym (same_Some x y e))
get_push [] x y (suc i) = λ e. absurd (cc)
get_push (z ∷ zs) x y zero = λ e. inl e
get_push (z ∷ zs) x y (suc i) = λ e. push_further (get_push zs x y i e)

pub get_pushed : {A : Type 0} (xs : List A) (x y : A) (i : ℕ) → slice_get xs i ≡ Some y → slice_get (xs ++ x ∷ []) i ≡ Some y
get_pushed [] x y i = λ e. absurd (cc)
get_pushed (z ∷ zs) x y zero = λ e. e
get_pushed (z ∷ zs) x y (suc i) = λ e. get_pushed zs x y i e

pub grows_push : (queue : List Queued) (q : Queued) → QueueGrows queue (queue ++ q ∷ [])
grows_push queue q = record { each = λ i x e. record { queued = x; there = get_pushed queue q x i e; action = refl; outcome = λ o h. h } }

pub due_push : (queue : List Queued) (q : Queued) → q.outcome ≡ None → due (queue ++ q ∷ []) ≡ due queue
due_push [] q n = ap (λ (o : Option Outcome). settled_then o 0) n
due_push (x ∷ xs) q n = ap (λ (k : ℕ). settled_then x.outcome k) (due_push xs q n)

-- what stands at a place after the first unsettled action was changed
pub record IsOld (queue : List Queued) (i : ℕ) (y : Queued) : Type 0 where
  pub there : slice_get queue i ≡ Some y
  pub apart : i ≡ due queue → ⊥

pub record IsNew (f : Queued → Queued) (queue : List Queued) (i : ℕ) (y : Queued) : Type 0 where
  pub place : i ≡ due queue
  pub queued : Queued
  pub there : slice_get queue i ≡ Some queued
  pub is : y ≡ f queued

abbrev pub IsChangedAt : (Queued → Queued) → List Queued → ℕ → Queued → Type 0
IsChangedAt f queue i y = IsOld queue i y ⊎ IsNew f queue i y

changed_further : (f : Queued → Queued) (q : Queued) (qs : List Queued) (o : Outcome) → q.outcome ≡ Some o → (i : ℕ) (y : Queued) →
    IsChangedAt f qs i y → IsChangedAt f (q ∷ qs) (suc i) y
changed_further f q qs o n i y (inl h) =
    inl (record {
      there = h.there;
      apart = λ s. h.apart (let z : due (q ∷ qs) ≡ suc (due qs) = ap (λ (p : Option Outcome). settled_then p
          (due qs)) n in omega arith);
    })
changed_further f q qs o n i y (inr h) =
    inr (record {
      place = ap suc h.place ∙ sym (ap (λ (p : Option Outcome). settled_then p (due qs)) n);
      queued = h.queued;
      there = h.there;
      is = h.is;
    })

one_changed : (f : Queued → Queued) (q : Queued) (qs : List Queued) (o : Option Outcome) → q.outcome ≡ o →
    (i : ℕ) (y : Queued) → slice_get (change_queued f q qs (change_first f qs) o) i ≡ Some y →
    ((i : ℕ) (y : Queued) → slice_get (change_first f qs) i ≡ Some y → IsChangedAt f qs i y) →
    IsChangedAt f (q ∷ qs) i y
one_changed f q qs None n zero y e ih =
    inr (record { place = sym (ap (λ (o : Option Outcome). settled_then o (due qs)) n); queued = q; there = refl; is = sym (same_Some (f q) y e) })
one_changed f q qs None n (suc i) y e ih =
    inl (record { there = e; apart = λ s. let z : due (q ∷ qs) ≡ 0 = ap (λ (o : Option Outcome). settled_then o (due qs)) n in absurd (omega arith) })
one_changed f q qs (Some o) n zero y e ih =
    inl (record {
      there = e;
      apart = λ s. let z : due (q ∷ qs) ≡ suc (due qs) = ap (λ (o : Option Outcome). settled_then o (due qs)) n in absurd
          (omega arith);
    })
one_changed f q qs (Some o) n (suc i) y e ih = changed_further f q qs o n i y (ih i y e)

pub changed_at : (f : Queued → Queued) (queue : List Queued) (i : ℕ) (y : Queued) → slice_get (change_first f queue) i ≡ Some y → IsChangedAt f queue i y
changed_at f [] i y = λ e. absurd (cc)
changed_at f (q ∷ qs) i y = λ e. one_changed f q qs q.outcome refl i y e (changed_at f qs)

-- an action that is changed stays the action
one_grown : (f : Queued → Queued) (stays : (q : Queued) → (f q).action ≡ q.action) (q : Queued) (qs : List Queued) (o : Option Outcome) → q.outcome ≡ o →
    ((i : ℕ) (x : Queued) → slice_get qs i ≡ Some x → Stays x (change_first f qs) i) →
    (i : ℕ) (x : Queued) → slice_get (q ∷ qs) i ≡ Some x → Stays x (change_queued f q qs (change_first f qs) o) i
one_grown f stays q qs None n ih zero x e = record {
  queued = f q;
  there = refl;
  action = stays q ∙ ap (λ (y : Queued). y.action) (same_Some q x e);
  outcome = λ p h. let g : x.outcome ≡ None = ap (λ (y : Queued). y.outcome) (sym (same_Some q x e)) ∙ n in absurd (cc);
}
one_grown f stays q qs None n ih (suc i) x e = record { queued = x; there = e; action = refl; outcome = λ p h. h }
one_grown f stays q qs (Some o) n ih zero x e = record { queued = x; there = e; action = refl; outcome = λ p h. h }
one_grown f stays q qs (Some o) n ih (suc i) x e =
    let s : Stays x (change_first f qs) i = ih i x e in record { queued = s.queued; there = s.there; action = s.action; outcome = s.outcome }

grown_changed : (f : Queued → Queued) (stays : (q : Queued) → (f q).action ≡ q.action) (queue : List Queued) (i : ℕ) (x : Queued) →
    slice_get queue i ≡ Some x → Stays x (change_first f queue) i
grown_changed f stays [] i x = λ e. absurd (cc)
grown_changed f stays (q ∷ qs) i x = λ e. one_grown f stays q qs q.outcome refl (grown_changed f stays qs) i x e

pub grows_settle : (outcome : Outcome) (queue : List Queued) → QueueGrows queue (change_first (settled outcome) queue)
grows_settle outcome queue = record { each = grown_changed (settled outcome) (λ q. refl) queue }

pub grows_try : (tries : ℕ) (queue : List Queued) → QueueGrows queue (change_first (tried tries) queue)
grows_try tries queue = record { each = grown_changed (tried tries) (λ q. refl) queue }

-- where all are unsettled, the first one is due
none_due : (queue : List Queued) → ((i : ℕ) (q : Queued) → slice_get queue i ≡ Some q → q.outcome ≡ None) → due queue ≡ 0
none_due [] n = refl
none_due (q ∷ qs) n = ap (λ (o : Option Outcome). settled_then o (due qs)) (n 0 q refl)

one_due : (outcome : Outcome) (q : Queued) (qs : List Queued) (o : Option Outcome) → q.outcome ≡ o → (x : Queued) →
    slice_get (q ∷ qs) (settled_then o (due qs)) ≡ Some x →
    ((i : ℕ) (y : Queued) → slice_get (q ∷ qs) i ≡ Some y → settled_then o (due qs) ≤ i → y.outcome ≡ None) →
    ((x : Queued) → slice_get qs (due qs) ≡ Some x → ((i : ℕ) (y : Queued) → slice_get qs i ≡ Some y → due qs ≤ i → y.outcome ≡ None) → due
    (change_first (settled outcome) qs) ≡ suc (due qs)) →
    due (change_queued (settled outcome) q qs (change_first (settled outcome) qs) o) ≡ suc (settled_then o (due qs))
one_due outcome q qs None n x e rest ih = ap suc (none_due qs (λ i y h. rest (suc i) y h (omega arith)))
one_due outcome q qs (Some o) n x e rest ih =
    ap (λ (p : Option Outcome). settled_then p (due (change_first (settled outcome) qs))) n
    ∙ ap suc (ih x e (λ i y h l. rest (suc i) y h (omega arith)))

pub due_settle : (outcome : Outcome) (queue : List Queued) (x : Queued) → slice_get queue (due queue) ≡ Some x →
    ((i : ℕ) (y : Queued) → slice_get queue i ≡ Some y → due queue ≤ i → y.outcome ≡ None) → due (change_first (settled outcome) queue) ≡ suc (due queue)
due_settle outcome [] x = λ e. absurd (cc)
due_settle outcome (q ∷ qs) x = λ e rest. one_due outcome q qs q.outcome refl x e rest (due_settle outcome qs)

-- where a message landed it stays
landed_stays : (n : ℕ) (action : Action) (old new : Option Outcome) (name : List ℕ) (validity uid : ℕ) → ((o : Outcome) → old ≡ Some o → new ≡ Some o) →
    landed n action old ≡ found.Real name validity uid → landed n action new ≡ found.Real name validity uid
landed_stays n action (Some o) new name validity uid s = λ e.
    subst (λ (p : Option Outcome). landed n action p ≡ found.Real name validity uid) (sym (s o refl)) e
landed_stays n (actions.Flag target add flags) None new name validity uid s = λ e. absurd (cc)
landed_stays n (actions.Move target to) None new name validity uid s = λ e. absurd (cc)
landed_stays n (actions.Append to flags text id) None new name validity uid s = λ e. absurd (cc)

queued_stays : (old new : List Queued) (n i : ℕ) (name : List ℕ) (validity uid : ℕ) (o : Option Queued) → QueueGrows old new → slice_get old i ≡ o →
    landed_queued n o ≡ found.Real name validity uid → landed_queued n (slice_get new i) ≡ found.Real name validity uid
queued_stays old new n i name validity uid None g s = λ e. absurd (cc)
queued_stays old new n i name validity uid (Some q) g s = λ e.
    let t : Stays q new i = g.each i q s in
    ap (landed_queued n) t.there ∙ ap (λ (a : Action). landed n a t.queued.outcome) t.action
    ∙ landed_stays n q.action q.outcome t.queued.outcome name validity uid t.outcome e

-- what a target resolves to stays
pub resolved_stays : (old new : List Queued) (target : Target) (name : List ℕ) (validity uid : ℕ) → QueueGrows old new →
    resolved old target ≡ found.Real name validity uid → resolved new target ≡ found.Real name validity uid
resolved_stays old new (targets.Real at under number) name validity uid g e = e
resolved_stays old new (targets.Dummy n) name validity uid g e = queued_stays old new n (n - 1) name validity uid (slice_get old (n - 1)) g refl e

and_both : (a b : Bool) → (a && b) ≡ true → (a ≡ true) × (b ≡ true)
and_both true true = λ e. (refl, refl)
and_both true false = λ e. absurd (cc)
and_both false true = λ e. absurd (cc)
and_both false false = λ e. absurd (cc)

both_and : (a b : Bool) → a ≡ true → b ≡ true → (a && b) ≡ true
both_and true true = λ s t. refl
both_and true false = λ s t. absurd (cc)
both_and false true = λ s t. absurd (cc)
both_and false false = λ s t. absurd (cc)

-- what stands at a message is that message
pub at_is : (f : Found) (name : List ℕ) (validity uid : ℕ) → is_at f name validity uid ≡ true → f ≡ found.Real name validity uid
at_is (found.Real at under number) name validity uid = λ e.
    let parts = and_both (bytes_eq at name && (under == validity)) (number == uid) e in
    let front = and_both (bytes_eq at name) (under == validity) parts.0 in
    ap (λ (x : List ℕ). found.Real x under number) (same_name at name front.0)
    ∙ ap (λ (x : ℕ). found.Real name x number) (eqb-true under validity front.1)
    ∙ ap (λ (x : ℕ). found.Real name validity x) (eqb-true number uid parts.1)
at_is (found.NotYet by) name validity uid = λ e. absurd (cc)
at_is (found.Never by) name validity uid = λ e. absurd (cc)

pub is_there : (f : Found) (name : List ℕ) (validity uid : ℕ) → f ≡ found.Real name validity uid → is_at f name validity uid ≡ true
is_there f name validity uid e =
    ap (λ (x : Found). is_at x name validity uid) e
    ∙ both_and (bytes_eq name name && (validity == validity)) (uid == uid)
    (both_and (bytes_eq name name) (validity == validity) (names_same name name refl) (eq-eqb validity validity refl)) (eq-eqb uid uid refl)

at_stays : (old new : List Queued) (target : Target) (name : List ℕ) (validity uid : ℕ) → QueueGrows old new →
    is_at (resolved old target) name validity uid ≡ true → is_at (resolved new target) name validity uid ≡ true
at_stays old new target name validity uid g e =
    is_there (resolved new target) name validity uid (resolved_stays old new target name validity uid g (at_is (resolved old target) name validity uid e))

-- the intent is one for the action still
pub suits_stays : (old new : List Queued) (action : Action) (intent : Intent) → QueueGrows old new → suits old action intent ≡ true →
    suits new action intent ≡ true
suits_stays old new (actions.Flag target add flags) (intents.Store name validity uid modseq) g s = at_stays old new target name validity uid g s
suits_stays old new (actions.Move target to) (intents.Shift from validity uid other) g s =
    let parts = and_both (is_at (resolved old target) from validity uid) (bytes_eq other to) s in
    both_and (is_at (resolved new target) from validity uid) (bytes_eq other to) (at_stays old new target from validity uid g parts.0) parts.1
suits_stays old new (actions.Append to flags text id) (intents.Put other validity uidnext) g s = s
suits_stays old new (actions.Flag target add flags) (intents.Shift from validity uid to) g s = s
suits_stays old new (actions.Flag target add flags) (intents.Put to validity uidnext) g s = s
suits_stays old new (actions.Move target to) (intents.Store name validity uid modseq) g s = s
suits_stays old new (actions.Move target to) (intents.Put other validity uidnext) g s = s
suits_stays old new (actions.Append to flags text id) (intents.Store name validity uid modseq) g s = s
suits_stays old new (actions.Append to flags text id) (intents.Shift from validity uid other) g s = s

-- an intent that suits an action, as a relation: what its target resolves to, and where the message goes
abbrev pub Suited : List Queued → Action → Intent → Type 0
Suited queue (actions.Flag target add flags) (intents.Store name validity uid modseq) = resolved queue target ≡ found.Real name validity uid
Suited queue (actions.Move target to) (intents.Shift from validity uid other) = (resolved queue target ≡ found.Real from validity uid) × (other ≡ to)
Suited queue (actions.Append to flags text id) (intents.Put other validity uidnext) = other ≡ to
Suited queue (actions.Flag target add flags) (intents.Shift from validity uid to) = ⊥
Suited queue (actions.Flag target add flags) (intents.Put to validity uidnext) = ⊥
Suited queue (actions.Move target to) (intents.Store name validity uid modseq) = ⊥
Suited queue (actions.Move target to) (intents.Put other validity uidnext) = ⊥
Suited queue (actions.Append to flags text id) (intents.Store name validity uid modseq) = ⊥
Suited queue (actions.Append to flags text id) (intents.Shift from validity uid other) = ⊥

pub is_suited : (queue : List Queued) (action : Action) (intent : Intent) → suits queue action intent ≡ true → Suited queue action intent
is_suited queue (actions.Flag target add flags) (intents.Store name validity uid modseq) = λ s. at_is (resolved queue target) name validity uid s
is_suited queue (actions.Move target to) (intents.Shift from validity uid other) = λ s.
    let parts = and_both (is_at (resolved queue target) from validity uid) (bytes_eq other to) s in
    (at_is (resolved queue target) from validity uid parts.0, same_name other to parts.1)
is_suited queue (actions.Append to flags text id) (intents.Put other validity uidnext) = λ s. same_name other to s
is_suited queue (actions.Flag target add flags) (intents.Shift from validity uid to) = λ s. cc
is_suited queue (actions.Flag target add flags) (intents.Put to validity uidnext) = λ s. cc
is_suited queue (actions.Move target to) (intents.Store name validity uid modseq) = λ s. cc
is_suited queue (actions.Move target to) (intents.Put other validity uidnext) = λ s. cc
is_suited queue (actions.Append to flags text id) (intents.Store name validity uid modseq) = λ s. cc
is_suited queue (actions.Append to flags text id) (intents.Shift from validity uid other) = λ s. cc

-- a cache after a change of one
one_put : (name n : List ℕ) (cache : Option Cache) (k : Known) (ks : List Known) (x : Cache) → bytes_eq k.name name ≡ true →
    cache_at n (record k { cache = cache } ∷ ks) ≡ Some x → ((n ≡ name) × (cache ≡ Some x)) ⊎ (cache_at n (k ∷ ks) ≡ Some x)
one_put name n cache k ks x t =
    cond_two (bytes_eq k.name n) (Some (record k { cache = cache })) (known_at n ks) (Some k) (known_at n ks)
    (λ (o p : Option Known). cache_of o ≡ Some x → ((n ≡ name) × (cache ≡ Some x)) ⊎ (cache_of p ≡ Some x))
    (λ u e. inl (sym (same_name k.name n u) ∙ same_name k.name name t, e)) (λ u e. inr e)

pub cache_put : (name n : List ℕ) (cache : Option Cache) (ks : List Known) (x : Cache) → cache_at n (put_cache name cache ks) ≡ Some x →
    ((n ≡ name) × (cache ≡ Some x)) ⊎ (cache_at n ks ≡ Some x)
cache_put name n cache [] x = λ e. inr e
cache_put name n cache (k ∷ ks) x =
    cond_both (bytes_eq k.name name) (record k { cache = cache } ∷ ks) (k ∷ put_cache name cache ks)
    (λ (l : List Known). cache_at n l ≡ Some x → ((n ≡ name) × (cache ≡ Some x)) ⊎ (cache_at n (k ∷ ks) ≡ Some x))
    (λ t. one_put name n cache k ks x t)
    (λ f. cond_two (bytes_eq k.name n) (Some k) (known_at n (put_cache name cache ks)) (Some k) (known_at n ks)
    (λ (o p : Option Known). cache_of o ≡ Some x → ((n ≡ name) × (cache ≡ Some x)) ⊎ (cache_of p ≡ Some x))
    (λ u e. inr e) (λ u e. cache_put name n cache ks x e))
