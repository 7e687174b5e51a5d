-- Events enter the book.
use Rattle.std.proofs.Common.{◌≡◌, ◌⊎◌, ⊎_elim, inl, inr, ℕ, suc, ◌<◌, ◌≤◌, List, [], ◌∷◌, ◌++◌, length, map, Option, Some, None, refl, sym, ◌∙◌, ap, subst, arith}
use Rattle.std.specs.Prelude.{slice_get, bytes_eq}
use Rattle.std.proofs.lemmas.Bool.{cond_both}
use Rattle.std.proofs.lemmas.Option.{none-some, same_Some}
use Rattle.imap_model.specs.Carrying.{Waiting}
use Rattle.imap_model.specs.Ours.{ours}
use Rattle.imap_model.specs.declared.deed.Deed.{Deed}
use Rattle.imap_model.specs.declared.server.Server.{Server}
use Rattle.mailbox_cache.specs.declared.cache.Cache.{Cache}
use Rattle.mailbox_cache.specs.declared.delta.Delta.{Delta}
use Rattle.action_queue.proofs.Queueing.{due_try}
use Rattle.action_queue.specs.Queues.{due, due_action, accepted, settled, tried, change_first}
use Rattle.action_queue.specs.Book.{Meaning, known_at, cache_of, cache_at, learned, known_of, begun, after, put_cache}
use Rattle.action_queue.specs.Events.{IsLawful, next_book}
use Rattle.action_queue.specs.declared.action.Action.{Action}
use Rattle.action_queue.specs.declared.intent.Intent.{Intent}
use Rattle.action_queue.specs.declared.outcome.Outcome.{Outcome}
use Rattle.action_queue.specs.declared.book.Known.{Known}
use Rattle.action_queue.specs.declared.queued.Queued.{Queued}
use Rattle.action_queue.specs.declared.event.Event.{Event}
use Rattle.action_queue.specs.declared.event.Event.TheVariants as events
use Rattle.book_laws.specs.Once.{AllOwned, Fits}
use Rattle.book_laws.specs.Open.{IsOpen}
use Rattle.book_laws.proofs.Facts.{now_in}
use Rattle.book_laws.specs.Fresh.{IsFreshNow, Fresh, IsFreshFor}
use Rattle.book_laws.specs.Sound.{HasIntent, IsSound}
use Rattle.book_laws.specs.Of.{tag_of, command_of, IsOf}
use Rattle.book_laws.specs.Kept.{KeptBook, KeptBefore, Kept}
use Rattle.book_laws.specs.Permitted.{MayFollow, Permits}
use Rattle.book_laws.proofs.Queueing.{get_push, get_pushed, grows_push, due_push, IsChangedAt, changed_at, grows_settle, grows_try, due_settle, cache_put}
use Rattle.book_laws.proofs.Sounding.{begun_sound, accept_sound, intend_sound, settle_sound, caches_sound, withdraw_sound}
use Rattle.book_laws.proofs.Lawful.{accept_known, accept_good, intend_due, settle_due, withdraw_few, IsDue}
use Rattle.book_laws.proofs.Reaching.{accept_reached, none_reached, settle_reached, tried_reached}
use Rattle.book_laws.proofs.Deeds.{owned_grows, all_none_owned, none_ours}

no_cache : (name : List ℕ) (names : List (List ℕ)) (cache : Cache) → cache_at name (map known_of names) ≡ Some cache → ⊥
no_cache name [] cache = λ e. absurd (cc)
no_cache name (n ∷ ns) cache =
    cond_both (bytes_eq n name) (Some (known_of n)) (known_at name (map known_of ns)) (λ (o : Option Known). cache_of o ≡ Some cache → ⊥)
    (λ t e. absurd (cc)) (λ f e. no_cache name ns cache e)

begun_kept : (names : List (List ℕ)) (s : Server) (waiting : Option Waiting) → KeptBefore s waiting → KeptBook (begun names) s waiting
begun_kept names s waiting k = record {
  sound = begun_sound names;
  well = k.well;
  once = record {
    owned = all_none_owned [] s.history k.none;
    settled = λ i q outcome e o. absurd (cc);
    once = subst (λ (l : List Deed). length l ≤ 1) (sym (none_ours 1 s.history k.none)) (omega arith);
    idle = λ _. none_ours 1 s.history k.none;
    later = λ i _. none_ours (suc i) s.history k.none;
  };
  open_intent = λ intent p q e. absurd (cc);
  fresh = λ name cache e. absurd (no_cache name names cache e);
  reached = record { waiting = λ i q e o. absurd (cc); deeds = none_reached s.boxes s.history k.none };
  waits = λ m. absurd (k.quiet m);
}

-- an accepted action
module _ (b : Meaning) (id : ℕ) (action : Action) (s : Server) (waiting : Option Waiting) (kept : KeptBook b s waiting) where
  same_due : due (b.queue ++ accepted action ∷ []) ≡ due b.queue
  same_due = due_push b.queue (accepted action) refl

  old_settled : (i : ℕ) (q : Queued) (outcome : Outcome) → q.outcome ≡ Some outcome →
      (slice_get b.queue i ≡ Some q) ⊎ ((i ≡ length b.queue) × (q ≡ accepted action)) → Fits outcome (ours (suc i) s.history)
  old_settled i q outcome o (inl e) = kept.once.settled i q outcome e o
  old_settled i q outcome o (inr e) = let n : q.outcome ≡ None = ap (λ (x : Queued). x.outcome) e.1 in absurd (cc)

  accept_keeps : IsLawful b (events.Accept id action) → Permits (Some b) (events.Accept id action) s waiting →
      KeptBook (after b (events.Accept id action)) s waiting
  accept_keeps lawful permitted =
      let new : Queued = accepted action in
      record {
        sound = accept_sound b action kept.sound permitted.0 (accept_known b id action lawful) (accept_good b id action lawful);
        well = kept.well;
        once = record {
          owned = owned_grows b.queue (b.queue ++ new ∷ []) s.history (grows_push b.queue new) kept.once.owned;
          settled = λ i q outcome e o. old_settled i q outcome o (get_push b.queue new q i e);
          once = subst (λ (k : ℕ). length (ours (suc k) s.history) ≤ 1) (sym same_due) kept.once.once;
          idle = λ n. subst (λ (k : ℕ). ours (suc k) s.history ≡ []) (sym same_due) (kept.once.idle n);
          later = λ i l. kept.once.later i (subst (λ (k : ℕ). k < i) same_due l);
        };
        open_intent = λ intent p q e.
            let h : HasIntent b intent = kept.sound.intent intent p in
            let was : slice_get (b.queue ++ new ∷ []) (due b.queue) ≡ Some h.queued = get_pushed b.queue new h.queued (due b.queue) h.there in
            let now : slice_get (b.queue ++ new ∷ []) (due b.queue) ≡ Some q = subst (λ (k : ℕ). slice_get (b.queue ++ new ∷ []) k ≡ Some q) same_due e in
            let is : h.queued ≡ q = same_Some h.queued q (sym was ∙ now) in
            subst (λ (k : ℕ). IsOpen q.action (ours (suc k) s.history) intent s.boxes) (sym same_due)
            (kept.open_intent intent p q (h.there ∙ ap (λ (x : Queued). Some x) is));
        fresh = kept.fresh;
        reached = record { waiting = accept_reached b action s kept.reached permitted.1; deeds = kept.reached.deeds };
        waits = λ m. let of : IsOf b s m.command = kept.waits m in record {
          intent = of.intent;
          pending = of.pending;
          queued = of.queued;
          there =
              subst (λ (k : ℕ). slice_get (b.queue ++ new ∷ []) k ≡ Some of.queued) (sym same_due)
              (get_pushed b.queue new of.queued (due b.queue) of.there);
          is = subst (λ (k : ℕ). command_of (tag_of (suc k) of.queued) of.queued.action of.intent ≡ Some m.command) (sym same_due) of.is;
          none = subst (λ (k : ℕ). ours (suc k) s.history ≡ []) (sym same_due) of.none;
          at = of.at;
        };
      }

intend_keeps : (b : Meaning) (id : ℕ) (intent : Intent) (s : Server) (waiting : Option Waiting) → KeptBook b s waiting → HasIntent b intent →
    Permits (Some b) (events.Intend id intent) s waiting → KeptBook (after b (events.Intend id intent)) s waiting
intend_keeps b id intent s waiting kept has permitted = record {
  sound = intend_sound b intent kept.sound has;
  well = kept.well;
  once = record { owned = kept.once.owned; settled = kept.once.settled; once = kept.once.once; idle = λ n. absurd (cc); later = kept.once.later };
  open_intent = λ other p q e.
      subst (λ (x : Intent). IsOpen q.action (ours (suc (due b.queue)) s.history) x s.boxes) (same_Some intent other p) (now_in (permitted.1 q e));
  fresh = kept.fresh;
  reached = record { waiting = kept.reached.waiting; deeds = kept.reached.deeds };
  waits = λ m. absurd (permitted.0 m);
}

outcome_fits : (b : Meaning) (outcome : Outcome) (s : Server) (waiting : Option Waiting) → KeptBook b s waiting →
    Fits outcome (ours (suc (due b.queue)) s.history) →
    (i : ℕ) (q : Queued) (other : Outcome) → q.outcome ≡ Some other → IsChangedAt (settled outcome) b.queue i q → Fits other (ours (suc i) s.history)
outcome_fits b outcome s waiting kept fits i q other o (inl h) = kept.once.settled i q other h.there o
outcome_fits b outcome s waiting kept fits i q other o (inr h) =
    let is : outcome ≡ other = same_Some outcome other (sym (ap (λ (x : Queued). x.outcome) h.is) ∙ o) in
    subst (λ (x : Outcome). Fits x (ours (suc i) s.history)) is (subst (λ (k : ℕ). Fits outcome (ours (suc k) s.history)) (sym h.place) fits)

settle_keeps : (b : Meaning) (id : ℕ) (outcome : Outcome) (s : Server) (waiting : Option Waiting) → KeptBook b s waiting → IsDue b outcome →
    Permits (Some b) (events.Settle id outcome) s waiting → KeptBook (after b (events.Settle id outcome)) s waiting
settle_keeps b id outcome s waiting kept has permitted =
    let next : due (change_first (settled outcome) b.queue) ≡ suc (due b.queue) = due_settle outcome b.queue has.queued has.is kept.sound.rest in
    let none : ours (suc (suc (due b.queue))) s.history ≡ [] = kept.once.later (suc (due b.queue)) (omega arith) in
    let none_now : ours (suc (due (change_first (settled outcome) b.queue))) s.history ≡ [] =
    subst (λ (k : ℕ). ours (suc k) s.history ≡ []) (sym next) none in
    record {
      sound = settle_sound b outcome kept.sound has;
      well = kept.well;
      once = record {
        owned = owned_grows b.queue (change_first (settled outcome) b.queue) s.history (grows_settle outcome b.queue) kept.once.owned;
        settled = λ i q other e o. outcome_fits b outcome s waiting kept permitted.1 i q other o (changed_at (settled outcome) b.queue i q e);
        once = subst (λ (l : List Deed). length l ≤ 1) (sym none_now) (omega arith);
        idle = λ _. none_now;
        later = λ i l. kept.once.later i (omega arith);
      };
      open_intent = λ intent p q e. absurd (cc);
      fresh = kept.fresh;
      reached = record { waiting = settle_reached b outcome s kept.reached; deeds = kept.reached.deeds };
      waits = λ m. absurd (permitted.0 m);
    }

learned_fresh : (b : Meaning) (name : List ℕ) (delta : Delta) (s : Server) → Fresh b s.boxes →
    IsFreshNow name (learned (cache_at name b.boxes) delta) s.boxes →
    (n : List ℕ) (cache : Cache) → ((n ≡ name) × (Some (learned (cache_at name b.boxes) delta) ≡ Some cache)) ⊎ (cache_at n b.boxes ≡ Some cache) →
    IsFreshFor n cache s.boxes
learned_fresh b name delta s fresh permitted n cache (inr was) = fresh n cache was
learned_fresh b name delta s fresh permitted n cache (inl new) =
    subst (λ (k : List ℕ). IsFreshFor k cache s.boxes) (sym new.0)
    (subst (λ (x : Cache). IsFreshFor name x s.boxes) (same_Some (learned (cache_at name b.boxes) delta) cache new.1) (now_in permitted))

-- what has a cache behind one that was taken away had it before
pub still_cached : (name n : List ℕ) (boxes : List Known) (cache : Cache) → cache_at n (put_cache name None boxes) ≡ Some cache →
    cache_at n boxes ≡ Some cache
still_cached name n boxes cache e =
    ⊎_elim (λ (new : (n ≡ name) × (None ≡ Some cache)). absurd (none-some cache new.1)) (λ (was : cache_at n boxes ≡ Some cache). was)
    (cache_put name n None boxes cache e)

-- another cache, and the rest of the book as it was
caches_keep : (b c : Meaning) (s : Server) (waiting : Option Waiting) → KeptBook b s waiting → IsSound c → c.queue ≡ b.queue →
    c.pending ≡ b.pending → Fresh c s.boxes → KeptBook c s waiting
caches_keep b c s waiting kept sound queue pending fresh = record {
  sound = sound;
  well = kept.well;
  once = record {
    owned = subst (λ (l : List Queued). AllOwned l s.history) (sym queue) kept.once.owned;
    settled = λ i q outcome e o. kept.once.settled i q outcome (subst (λ (l : List Queued). slice_get l i ≡ Some q) queue e) o;
    once = subst (λ (l : List Queued). length (ours (suc (due l)) s.history) ≤ 1) (sym queue) kept.once.once;
    idle = λ n. subst (λ (l : List Queued). ours (suc (due l)) s.history ≡ []) (sym queue) (kept.once.idle (sym pending ∙ n));
    later = λ i l. kept.once.later i (subst (λ (l : List Queued). due l < i) queue l);
  };
  open_intent = λ intent p q e.
      subst (λ (l : List Queued). IsOpen q.action (ours (suc (due l)) s.history) intent s.boxes) (sym queue)
      (kept.open_intent intent (sym pending ∙ p) q (subst (λ (l : List Queued). due_action l ≡ Some q) queue e));
  fresh = fresh;
  reached = record {
    waiting = λ i q e o. kept.reached.waiting i q (subst (λ (l : List Queued). slice_get l i ≡ Some q) queue e) o;
    deeds = kept.reached.deeds;
  };
  waits = λ m. let of : IsOf b s m.command = kept.waits m in record {
    intent = of.intent;
    pending = pending ∙ of.pending;
    queued = of.queued;
    there = subst (λ (l : List Queued). slice_get l (due l) ≡ Some of.queued) (sym queue) of.there;
    is = subst (λ (l : List Queued). command_of (tag_of (suc (due l)) of.queued) of.queued.action of.intent ≡ Some m.command) (sym queue) of.is;
    none = subst (λ (l : List Queued). ours (suc (due l)) s.history ≡ []) (sym queue) of.none;
    at = of.at;
  };
}

-- a try is taken back: its action has no deed, and no outcome changes
old_fits : (b : Meaning) (tries : ℕ) (s : Server) (waiting : Option Waiting) → KeptBook b s waiting → (i : ℕ) (q : Queued) (other : Outcome) →
    q.outcome ≡ Some other → IsChangedAt (tried tries) b.queue i q → Fits other (ours (suc i) s.history)
old_fits b tries s waiting kept i q other o (inl h) = kept.once.settled i q other h.there o
old_fits b tries s waiting kept i q other o (inr h) =
    kept.once.settled i h.queued other h.there (sym (ap (λ (x : Queued). x.outcome) h.is) ∙ o)

withdraw_keeps : (b : Meaning) (id tries : ℕ) (s : Server) (waiting : Option Waiting) → KeptBook b s waiting → tries ≤ 2 →
    Permits (Some b) (events.Withdraw id tries) s waiting → KeptBook (after b (events.Withdraw id tries)) s waiting
withdraw_keeps b id tries s waiting kept most permitted =
    let same : due (change_first (tried tries) b.queue) ≡ due b.queue = due_try tries b.queue in
    let none_now : ours (suc (due (change_first (tried tries) b.queue))) s.history ≡ [] =
    subst (λ (k : ℕ). ours (suc k) s.history ≡ []) (sym same) permitted.1 in
    record {
      sound = withdraw_sound b tries kept.sound most;
      well = kept.well;
      once = record {
        owned = owned_grows b.queue (change_first (tried tries) b.queue) s.history (grows_try tries b.queue) kept.once.owned;
        settled = λ i q other e o. old_fits b tries s waiting kept i q other o (changed_at (tried tries) b.queue i q e);
        once = subst (λ (l : List Deed). length l ≤ 1) (sym none_now) (omega arith);
        idle = λ _. none_now;
        later = λ i l. kept.once.later i (subst (λ (k : ℕ). k < i) same l);
      };
      open_intent = λ intent p q e. absurd (cc);
      fresh = kept.fresh;
      reached = record { waiting = tried_reached b tries s kept.reached; deeds = kept.reached.deeds };
      waits = λ m. absurd (permitted.0 m);
    }

pub event_keeps : (b : Meaning) (event : Event) (s : Server) (waiting : Option Waiting) → KeptBook b s waiting → MayFollow (Some b) event →
    Permits (Some b) event s waiting → KeptBook (after b event) s waiting
event_keeps b (events.Begin names) s waiting kept follows permitted = absurd permitted
event_keeps b (events.Accept id action) s waiting kept follows permitted = accept_keeps b id action s waiting kept follows permitted
event_keeps b (events.Intend id intent) s waiting kept follows permitted = intend_keeps b id intent s waiting kept (intend_due b id intent follows) permitted
event_keeps b (events.Settle id outcome) s waiting kept follows permitted =
    settle_keeps b id outcome s waiting kept (settle_due b id outcome follows) permitted
event_keeps b (events.Learn name delta) s waiting kept follows permitted =
    let new : Option Cache = Some (learned (cache_at name b.boxes) delta) in
    caches_keep b (after b (events.Learn name delta)) s waiting kept (caches_sound b name new kept.sound) refl refl
    (λ n cache e. learned_fresh b name delta s kept.fresh permitted n cache (cache_put name n new b.boxes cache e))
event_keeps b (events.Old id action outcome) s waiting kept follows permitted = absurd permitted
event_keeps b (events.Reset name kept_validity told) s waiting kept follows permitted =
    caches_keep b (after b (events.Reset name kept_validity told)) s waiting kept (caches_sound b name None kept.sound) refl refl
    (λ n cache e. kept.fresh n cache (still_cached name n b.boxes cache e))
event_keeps b (events.Withdraw id tries) s waiting kept follows permitted =
    withdraw_keeps b id tries s waiting kept (withdraw_few b id tries follows) permitted

pub book_keeps : (b : Option Meaning) (event : Event) (s : Server) (waiting : Option Waiting) → Kept b s waiting → MayFollow b event →
    Permits b event s waiting → KeptBook (next_book b event) s waiting
book_keeps None (events.Begin names) s waiting kept follows permitted = begun_kept names s waiting kept
book_keeps None (events.Accept id action) s waiting kept follows permitted = absurd permitted
book_keeps None (events.Intend id intent) s waiting kept follows permitted = absurd permitted
book_keeps None (events.Settle id outcome) s waiting kept follows permitted = absurd permitted
book_keeps None (events.Learn name delta) s waiting kept follows permitted = absurd permitted
book_keeps None (events.Old id action outcome) s waiting kept follows permitted = absurd permitted
book_keeps None (events.Reset name kept_validity told) s waiting kept follows permitted = absurd permitted
book_keeps None (events.Withdraw id tries) s waiting kept follows permitted = absurd permitted
book_keeps (Some b) event s waiting kept follows permitted = event_keeps b event s waiting kept follows permitted
