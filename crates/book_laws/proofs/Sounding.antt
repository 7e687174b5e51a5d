-- What lawful events keep of a book.
use Rattle.std.proofs.Common.{◌≡◌, ◌⊎◌, inl, inr, ℕ, suc, ◌<◌, ◌≤◌, false, List, [], ◌∷◌, ◌++◌, length, Option, Some, None}
use Rattle.std.proofs.Common.{refl, sym, ◌∙◌, ap, subst, arith, length-append}
use Rattle.std.specs.Prelude.{slice_get}
use Rattle.std.proofs.lemmas.Option.{same_Some, slice_get_within}
use Rattle.mailbox_cache.specs.declared.cache.Cache.{Cache}
use Rattle.action_queue.specs.Queues.{due, accepted, ended, settled, tried, change_first}
use Rattle.action_queue.specs.Rules.{is_unknown_action, is_bad_action, is_misplaced_of}
use Rattle.action_queue.specs.Book.{Meaning, begun, after, put_cache, learned, cache_at}
use Rattle.action_queue.specs.Events.{IsLawful}
use Rattle.action_queue.specs.Writable.{IsWritable, IsWritableAction}
use Rattle.action_queue.specs.declared.action.Action.{Action}
use Rattle.action_queue.specs.declared.intent.Intent.{Intent}
use Rattle.action_queue.specs.declared.outcome.Outcome.{Outcome}
use Rattle.action_queue.specs.declared.queued.Queued.{Queued}
use Rattle.action_queue.specs.declared.event.Event.{Event}
use Rattle.action_queue.specs.declared.event.Event.TheVariants as events
use Rattle.action_queue.proofs.Queueing.{due_ended, due_try, none_due}
use Rattle.book_laws.specs.Sound.{HasIntent, IsPlaced, IsSound}
use Rattle.book_laws.proofs.Queueing.{get_push, get_pushed, grows_push, due_push, IsChangedAt, changed_at, grows_settle, grows_try, due_settle, suits_stays}
use Rattle.book_laws.proofs.Making.{AllPlaced, good_grows, good_new, accepted_placed, accepted_good, settled_placed, settled_good, tried_good}
use Rattle.book_laws.proofs.Making.{unknown_put, action_same}
use Rattle.book_laws.proofs.Lawful.{accept_known, accept_good, intend_due, old_ended, settle_due, withdraw_few, IsDue, IsEnded}

accepted_rest : (b : Meaning) (q : Queued) → IsSound b → (i : ℕ) (x : Queued) → q.outcome ≡ None → due b.queue ≤ i →
    (slice_get b.queue i ≡ Some x) ⊎ ((i ≡ length b.queue) × (x ≡ q)) → x.outcome ≡ None
accepted_rest b q s i x n l (inl e) = s.rest i x e l
accepted_rest b q s i x n l (inr e) = ap (λ (y : Queued). y.outcome) e.1 ∙ n

accepted_all : (P : Queued → Type 0) (queue : List Queued) (q : Queued) → P q → ((i : ℕ) (x : Queued) → slice_get queue i ≡ Some x → P x) →
    (i : ℕ) (x : Queued) →
    (slice_get queue i ≡ Some x) ⊎ ((i ≡ length queue) × (x ≡ q)) → P x
accepted_all P queue q p all i x (inl e) = all i x e
accepted_all P queue q p all i x (inr e) = subst P (sym e.1) p

changed_all : (P : Queued → Type 0) (f : Queued → Queued) (queue : List Queued) → ((q : Queued) → P q → P (f q)) →
    ((i : ℕ) (x : Queued) → slice_get queue i ≡ Some x → P x) →
    (i : ℕ) (x : Queued) → IsChangedAt f queue i x → P x
changed_all P f queue p all i x (inl h) = all i x h.there
changed_all P f queue p all i x (inr h) = subst P (sym h.is) (p h.queued (all i h.queued h.there))

settled_rest : (b : Meaning) (outcome : Outcome) → IsSound b → (i : ℕ) (x : Queued) → suc (due b.queue) ≤ i →
    IsChangedAt (settled outcome) b.queue i x → x.outcome ≡ None
settled_rest b outcome s i x l (inl h) = s.rest i x h.there (omega arith)
settled_rest b outcome s i x l (inr h) = let p : i ≡ due b.queue = h.place in absurd (omega arith)

-- the book of a journal that begins is sound
pub begun_sound : (names : List (List ℕ)) → IsSound (begun names)
begun_sound names = record {
  rest = λ i q e l. absurd (cc);
  intent = λ intent p. absurd (cc);
  writable = λ i q e. absurd (cc);
  boxes = λ i q e. absurd (cc);
  places = λ i q e. absurd (cc);
  targets = λ i q e. absurd (cc);
  tries = λ i q e. absurd (cc);
}

-- the book stays sound at each event
pub accept_sound : (b : Meaning) (action : Action) → IsSound b → IsWritableAction action → is_unknown_action b.boxes action ≡ false →
    is_bad_action b.queue action ≡ false → IsSound (record b { queue = b.queue ++ accepted action ∷ [] })
accept_sound b action s w known good =
    let q : Queued = accepted action in
    let new : List Queued = b.queue ++ q ∷ [] in
    let d : due new ≡ due b.queue = due_push b.queue q refl in
    let placed : AllPlaced new = λ i x e.
    accepted_all IsPlaced b.queue q (accepted_placed action) s.places i x (get_push b.queue q x i e) in
    record {
      rest = λ i x e h. accepted_rest b q s i x refl (omega arith) (get_push b.queue q x i e);
      intent = λ intent p. let h : HasIntent b intent = s.intent intent p in record {
        queued = h.queued;
        there = subst (λ (k : ℕ). slice_get (b.queue ++ q ∷ []) k ≡ Some h.queued) (sym d) (get_pushed b.queue q h.queued (due b.queue) h.there);
        suits_it = suits_stays b.queue (b.queue ++ q ∷ []) h.queued.action intent (grows_push b.queue q) h.suits_it;
      };
      writable = λ i x e. accepted_all (λ y. IsWritableAction y.action) b.queue q w s.writable i x (get_push b.queue q x i e);
      boxes = λ i x e. accepted_all (λ y. is_unknown_action b.boxes y.action ≡ false) b.queue q known s.boxes i x (get_push b.queue q x i e);
      places = placed;
      targets = λ i x e.
          good_grows b.queue new (grows_push b.queue q) placed i x.action
          (accepted_good b.queue q s.targets (good_new b.queue s.places action good) i x (get_push b.queue q x i e));
      tries = λ i x e. accepted_all (λ y. y.tries ≤ 2) b.queue q (omega arith) s.tries i x (get_push b.queue q x i e);
    }

pub old_sound : (b : Meaning) (action : Action) (outcome : Outcome) → IsSound b → IsWritableAction action → IsEnded b action outcome →
    IsSound (record b { queue = b.queue ++ ended action outcome ∷ [] })
old_sound b action outcome s w h =
    let q : Queued = ended action outcome in
    let new : List Queued = b.queue ++ q ∷ [] in
    let d : due new ≡ suc (length b.queue) = due_ended action outcome b.queue (none_due b.queue h.all) in
    let fits : IsPlaced q = λ other e. subst (λ (o : Outcome). is_misplaced_of action o ≡ false) (same_Some outcome other e) h.placed in
    let placed : AllPlaced new = λ i x e. accepted_all IsPlaced b.queue q fits s.places i x (get_push b.queue q x i e) in
    record {
      rest = λ i x e l. let here : i < length new = slice_get_within new i x e in
          absurd (omega (arith, here, d, l, length-append b.queue (q ∷ [])));
      intent = λ intent p. let has : HasIntent b intent = s.intent intent p in absurd (cc (has.there, h.all));
      writable = λ i x e. accepted_all (λ y. IsWritableAction y.action) b.queue q w s.writable i x (get_push b.queue q x i e);
      boxes = λ i x e. accepted_all (λ y. is_unknown_action b.boxes y.action ≡ false) b.queue q h.known s.boxes i x (get_push b.queue q x i e);
      places = placed;
      targets = λ i x e.
          good_grows b.queue new (grows_push b.queue q) placed i x.action
          (accepted_good b.queue q s.targets (good_new b.queue s.places action h.good) i x (get_push b.queue q x i e));
      tries = λ i x e. accepted_all (λ y. y.tries ≤ 2) b.queue q (omega arith) s.tries i x (get_push b.queue q x i e);
    }

tried_rest : (b : Meaning) (tries : ℕ) → IsSound b → (i : ℕ) (x : Queued) → due b.queue ≤ i → IsChangedAt (tried tries) b.queue i x → x.outcome ≡ None
tried_rest b tries s i x l (inl h) = s.rest i x h.there l
tried_rest b tries s i x l (inr h) = ap (λ (y : Queued). y.outcome) h.is ∙ s.rest i h.queued h.there l

pub withdraw_sound : (b : Meaning) (tries : ℕ) → IsSound b → tries ≤ 2 → IsSound (record b { queue = change_first (tried tries) b.queue; pending = None })
withdraw_sound b tries s most =
    let new : List Queued = change_first (tried tries) b.queue in
    let d : due new ≡ due b.queue = due_try tries b.queue in
    let placed : AllPlaced new = λ i x e. changed_all IsPlaced (tried tries) b.queue (λ y p. p) s.places i x (changed_at (tried tries) b.queue i x e) in
    record {
      rest = λ i x e l. tried_rest b tries s i x (omega (arith, d, l)) (changed_at (tried tries) b.queue i x e);
      intent = λ other p. absurd (cc);
      writable = λ i x e. changed_all (λ y. IsWritableAction y.action) (tried tries) b.queue (λ y w. w) s.writable i x
          (changed_at (tried tries) b.queue i x e);
      boxes = λ i x e. changed_all (λ y. is_unknown_action b.boxes y.action ≡ false) (tried tries) b.queue (λ y w. w) s.boxes i x
          (changed_at (tried tries) b.queue i x e);
      places = placed;
      targets = λ i x e.
          good_grows b.queue new (grows_try tries b.queue) placed i x.action
          (tried_good b.queue tries s.targets i x (changed_at (tried tries) b.queue i x e));
      tries = λ i x e. changed_all (λ y. y.tries ≤ 2) (tried tries) b.queue (λ y few. most) s.tries i x (changed_at (tried tries) b.queue i x e);
    }

pub intend_sound : (b : Meaning) (intent : Intent) → IsSound b → HasIntent b intent → IsSound (record b { pending = Some intent })
intend_sound b intent s l =
    record {
      rest = s.rest;
      intent = λ other p. subst (λ (x : Intent). HasIntent (record b { pending = Some intent }) x) (same_Some intent other p)
          (record { queued = l.queued; there = l.there; suits_it = l.suits_it });
      writable = s.writable;
      boxes = s.boxes;
      places = s.places;
      targets = s.targets;
      tries = s.tries;
    }

pub settle_sound : (b : Meaning) (outcome : Outcome) → IsSound b → IsDue b outcome →
    IsSound (record b { queue = change_first (settled outcome) b.queue; pending = None })
settle_sound b outcome s h =
    let new : List Queued = change_first (settled outcome) b.queue in
    let d : due new ≡ suc (due b.queue) = due_settle outcome b.queue h.queued h.is s.rest in
    let placed : AllPlaced new = λ i x e.
    settled_placed b.queue outcome h.queued s.places h.is h.placed i x (changed_at (settled outcome) b.queue i x e) in
    record {
      rest = λ i x e l. settled_rest b outcome s i x (omega arith) (changed_at (settled outcome) b.queue i x e);
      intent = λ other p. absurd (cc);
      writable = λ i x e. changed_all (λ y. IsWritableAction y.action) (settled outcome) b.queue (λ y w. w) s.writable i x
          (changed_at (settled outcome) b.queue i x e);
      boxes = λ i x e. changed_all (λ y. is_unknown_action b.boxes y.action ≡ false) (settled outcome) b.queue (λ y w. w) s.boxes i x
          (changed_at (settled outcome) b.queue i x e);
      places = placed;
      targets = λ i x e.
          good_grows b.queue new (grows_settle outcome b.queue) placed i x.action
          (settled_good b.queue outcome s.targets i x (changed_at (settled outcome) b.queue i x e));
      tries = λ i x e. changed_all (λ y. y.tries ≤ 2) (settled outcome) b.queue (λ y few. omega arith) s.tries i x (changed_at (settled outcome) b.queue i x e);
    }

pub caches_sound : (b : Meaning) (name : List ℕ) (cache : Option Cache) → IsSound b →
    IsSound (record b { boxes = put_cache name cache b.boxes })
caches_sound b name cache s = record {
  rest = s.rest;
  intent = λ other p. let h : HasIntent b other = s.intent other p in record { queued = h.queued; there = h.there; suits_it = h.suits_it };
  writable = s.writable;
  boxes = λ i q e. action_same b.boxes (put_cache name cache b.boxes) (unknown_put name cache b.boxes) q.action ∙ s.boxes i q e;
  places = s.places;
  targets = s.targets;
  tries = s.tries;
}

pub sound_behind : (b : Meaning) (event : Event) → IsLawful b event → IsWritable event → IsSound b → IsSound (after b event)
sound_behind b (events.Begin names) l w s = s
sound_behind b (events.Accept id action) l w s = accept_sound b action s w (accept_known b id action l) (accept_good b id action l)
sound_behind b (events.Intend id intent) l w s = intend_sound b intent s (intend_due b id intent l)
sound_behind b (events.Settle id outcome) l w s = settle_sound b outcome s (settle_due b id outcome l)
sound_behind b (events.Learn name delta) l w s = caches_sound b name (Some (learned (cache_at name b.boxes) delta)) s
sound_behind b (events.Old id action outcome) l w s = old_sound b action outcome s w (old_ended b id action outcome l)
sound_behind b (events.Reset name kept told) l w s = caches_sound b name None s
sound_behind b (events.Withdraw id tries) l w s = withdraw_sound b tries s (withdraw_few b id tries l)
