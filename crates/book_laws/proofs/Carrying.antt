-- The waiting command is carried out.
use Rattle.std.proofs.Common.{◌≡◌, inl, inr, ⊎_elim, ℕ, suc, zero, ◌<◌, ◌≤◌, Bool, true, false, leb, not, List, [], ◌∷◌, ◌++◌, length, Option}
use Rattle.std.proofs.Common.{Some, None, refl, sym, ◌∙◌, ap, subst, arith}
use Rattle.std.specs.Prelude.{slice_get}
use Rattle.std.proofs.lemmas.Bool.{cond-true, le-leb, eq-eqb, ne_eqb, eqb-true, or_right, and_right, not_from_true}
use Rattle.std.proofs.lemmas.Option.{same_Some}
use Rattle.flag_set.specs.FlagSet.{has}
use Rattle.imap_model.specs.Lookups.{box_at, message_at, put_message, highest_of, validity_of}
use Rattle.imap_model.specs.Ours.{is_try, ours}
use Rattle.imap_model.specs.Mutating.{is_mutating}
use Rattle.imap_model.specs.WellFormed.{IsWellFormed}
use Rattle.imap_model.specs.Changes.{Adds, Sets, Drops, Rewrites, Shifts, floor_of, deed_of, receiver, Changes}
use Rattle.imap_model.specs.Carrying.{IsChanged, Stores, StoresNothing, Moves, MovesNothing, Appends, Accepted, Carries, Waiting}
use Rattle.imap_model.specs.Evolving.{EvolvesFrom}
use Rattle.imap_model.proofs.Finding.{cond_two, message_at-uid, message_at-put_same, message_at-without}
use Rattle.imap_model.proofs.Evolution.{effect_all}
use Rattle.imap_model.proofs.Effects.{added_there, set_there, left_there}
use Rattle.imap_model.specs.declared.server.Message.{Message}
use Rattle.imap_model.specs.declared.server.Mailbox.{Mailbox}
use Rattle.imap_model.specs.declared.deed.Deed.{Deed}
use Rattle.imap_model.specs.declared.server.Server.{Server}
use Rattle.imap_model.specs.declared.deed.Author.TheVariants.{Ours}
use Rattle.imap_model.specs.declared.deed.Change.{Change}
use Rattle.imap_model.specs.declared.deed.Change.TheVariants as changes
use Rattle.mail_base.specs.Tags.{try_tag}
use Rattle.mail_base.specs.declared.tag.Tag.{Tag}
use Rattle.mail_base.specs.declared.tag.Tag.TheVariants.{Again, Count, Play, Strange}
use Rattle.imap_model.specs.declared.command.Command.{Command}
use Rattle.imap_model.specs.declared.command.Command.TheVariants as commands
use Rattle.action_queue.specs.Queues.{due}
use Rattle.action_queue.specs.Targets.{resolved}
use Rattle.action_queue.specs.Writable.{IsWritableAction}
use Rattle.action_queue.specs.declared.found.Found.TheVariants as found
use Rattle.action_queue.specs.declared.target.Target.{Target}
use Rattle.action_queue.specs.declared.action.Action.{Action}
use Rattle.action_queue.specs.declared.action.Action.TheVariants as actions
use Rattle.action_queue.specs.declared.intent.Intent.{Intent}
use Rattle.action_queue.specs.declared.intent.Intent.TheVariants as intents
use Rattle.action_queue.specs.declared.outcome.Outcome.{Outcome}
use Rattle.action_queue.specs.declared.outcome.Outcome.TheVariants as outcomes
use Rattle.action_queue.specs.declared.queued.Queued.{Queued}
use Rattle.action_queue.specs.Book.{Meaning}
use Rattle.append_probe.specs.Marked.{at_least, has_id, marked}
use Rattle.book_laws.specs.Wanted.{IsAsked, IsWanted}
use Rattle.book_laws.specs.Once.{new_uid, AllOwned, Fits, Once}
use Rattle.book_laws.specs.InBox.{InBox, InBoxNow}
use Rattle.book_laws.specs.Open.{RowAbove, StoreFacts, ShiftFacts, some_of, PutFacts, IntentFacts, IsOpen, intent_name, intent_validity}
use Rattle.book_laws.specs.Sound.{HasIntent, IsSound}
use Rattle.book_laws.specs.Of.{tag_of, command_of, IsOf, MutatingWaits}
use Rattle.book_laws.specs.Kept.{KeptBook, KeptBefore, Kept}
use Rattle.book_laws.proofs.Queueing.{Suited, is_suited}
use Rattle.book_laws.proofs.Marks.{has_its_id, marked_push}
use Rattle.book_laws.proofs.Deeds.{ours_push_other, ours_push_mine, owned_push}
use Rattle.book_laws.proofs.Facts.{fresh_evolves}
use Rattle.book_laws.proofs.Reaching.{acted_reached, reached_here}

-- the action that is due has no outcome
pub due_open : (b : Meaning) → IsSound b → (q : Queued) → slice_get b.queue (due b.queue) ≡ Some q → q.outcome ≡ None
due_open b s q e = s.rest (due b.queue) q e (omega arith)

-- a tag is of one action
pub try_apart : (n k : ℕ) (tag : Tag) → (n ≡ k → ⊥) → is_try k tag ≡ true → is_try n tag ≡ false
try_apart n k (Play m) d = λ t. ne_eqb m n (λ e. d (sym e ∙ eqb-true m k t))
try_apart n k (Again m turn) d = λ t. ne_eqb m n (λ e. d (sym e ∙ eqb-true m k t))
try_apart n k (Count m) d = λ t. absurd (cc)
try_apart n k Strange d = λ t. absurd (cc)

-- the tag of a try is one of its action's
try_is : (n tries : ℕ) → is_try n (try_tag n tries) ≡ true
try_is n zero = eq-eqb n n refl
try_is n (suc k) = eq-eqb n n refl

tag_is : (b : Meaning) → IsSound b → (i : ℕ) (q : Queued) → slice_get b.queue i ≡ Some q → is_try (suc i) (tag_of (suc i) q) ≡ true
tag_is b s i q e = try_is (suc i) q.tries

no_intent : (b : Meaning) (intent : Intent) → b.pending ≡ Some intent → b.pending ≡ None → ⊥
no_intent b intent p n = absurd (cc)

pub nothing_waits : MutatingWaits None → ⊥
nothing_waits m = let e : None ≡ Some m.command = m.waits in absurd (cc)

-- the deed of the pending intent, and nothing more, came to the history
module _ (b : Meaning) (s t : Server) (waiting : Option Waiting) (kept : KeptBook b s waiting) (intent : Intent) (queued : Queued)
    (pending : b.pending ≡ Some intent) (there : slice_get b.queue (due b.queue) ≡ Some queued)
    (none : ours (suc (due b.queue)) s.history ≡ []) (tag : Tag) (tagged : is_try (suc (due b.queue)) tag ≡ true) (name : List ℕ) (change : Change)
    (becomes : Changes s.boxes (Ours tag) name change s t) where
  pub mine : ours (suc (due b.queue)) t.history ≡ deed_of (Ours tag) name change t.boxes ∷ []
  mine =
      let d : Deed = deed_of (Ours tag) name change t.boxes in
      ap (ours (suc (due b.queue))) becomes.history
      ∙ ours_push_mine (suc (due b.queue)) d s.history tagged
      ∙ ap (λ (l : List Deed). l ++ d ∷ []) none

  others : (n : ℕ) → (n ≡ suc (due b.queue) → ⊥) → ours n t.history ≡ ours n s.history
  others n apart =
      let d : Deed = deed_of (Ours tag) name change t.boxes in
      ap (ours n) becomes.history ∙ ours_push_other n d s.history (try_apart n (suc (due b.queue)) tag apart tagged)

  not_settled : (i : ℕ) (q : Queued) (outcome : Outcome) → slice_get b.queue i ≡ Some q → q.outcome ≡ Some outcome → suc i ≡ suc (due b.queue) → ⊥
  not_settled i q outcome e o same =
      let n : queued.outcome ≡ None = due_open b kept.sound queued there in
      let i_is : i ≡ due b.queue = omega arith in
      let here : slice_get b.queue (due b.queue) ≡ Some q = subst (λ (k : ℕ). slice_get b.queue k ≡ Some q) i_is e in
      let q_is : q ≡ queued = same_Some q queued (sym here ∙ there) in
      let qo : q.outcome ≡ None = ap (λ (x : Queued). x.outcome) q_is ∙ n in
      absurd (cc)

  once_after : IsWanted b.queue queued.action name (validity_of (box_at name t.boxes)) change → Once b t.history
  once_after wanted =
      let d : Deed = deed_of (Ours tag) name change t.boxes in
      record {
        owned = subst (λ (h : List Deed). AllOwned b.queue h) (sym becomes.history)
            (owned_push b.queue d s.history
            (record { place = due b.queue; queued = queued; there = there; tagged = tagged; wanted = wanted }) kept.once.owned);
        settled = λ i q outcome e o.
            subst (λ (l : List Deed). Fits outcome l) (sym (others (suc i) (not_settled i q outcome e o))) (kept.once.settled i q outcome e o);
        once = subst (λ (l : List Deed). length l ≤ 1) (sym mine) (omega arith);
        idle = λ n. absurd (no_intent b intent pending n);
        later = λ i l. others (suc i) (λ e. absurd (omega arith)) ∙ kept.once.later i l;
      }

  pub acted : IsWanted b.queue queued.action name (validity_of (box_at name t.boxes)) change →
      (x : Mailbox) → box_at (receiver name change) t.boxes ≡ Some x →
      IsOpen queued.action (deed_of (Ours tag) name change t.boxes ∷ []) intent t.boxes → KeptBook b t None
  acted wanted x put opened =
      let all : IsWellFormed t.boxes × EvolvesFrom s.boxes s.boxes t.boxes = effect_all s.boxes name change s.boxes t.boxes kept.well becomes.effect in
      record {
        sound = kept.sound;
        well = all.0;
        once = once_after wanted;
        open_intent = λ other p q e.
            subst (λ (x : Intent). IsOpen q.action (ours (suc (due b.queue)) t.history) x t.boxes) (same_Some intent other (sym pending ∙ p))
            (subst (λ (x : Queued). IsOpen x.action (ours (suc (due b.queue)) t.history) intent t.boxes) (same_Some queued q (sym there ∙ e))
            (subst (λ (l : List Deed). IsOpen queued.action l intent t.boxes) (sym mine) opened));
        fresh = fresh_evolves b s.boxes t.boxes all.1 kept.fresh;
        reached = acted_reached b s t (deed_of (Ours tag) name change t.boxes) becomes.history all.1
            (reached_here (receiver name change) t.boxes x put) kept.reached;
        waits = λ m. absurd (nothing_waits m);
      }

key_with : (add : Bool) (asked old new : List (List ℕ)) → IsChanged add asked old new → IsAsked add asked new
key_with true asked old new c = λ key h. c key ∙ or_right (has old key) (has asked key) h
key_with false asked old new c = λ key h. c key ∙ and_right (has old key) (not (has asked key)) (not_from_true (has asked key) h)

-- each kind's facts after its own change
store_acts : (uid modseq floor : ℕ) (flags : List (List ℕ)) (mine later : List Deed) (b c : Mailbox) → floor ≡ b.highest → Sets floor uid flags b c →
    StoreFacts uid modseq mine b → StoreFacts uid modseq later c
store_acts uid modseq floor flags before later b c fl a f =
    let n : Message = record a.message { flags = flags; modseq = a.modseq } in
    let above : floor < a.modseq = a.is_next.above in
    let h : modseq ≤ b.highest = f.highest in
    let same : a.message.uid ≡ uid = message_at-uid uid b.messages a.message a.there in
    let was : message_at n.uid b.messages ≡ Some a.message = subst (λ (k : ℕ). message_at k b.messages ≡ Some a.message) (sym same) a.there in
    let now : message_at uid (put_message n b.messages) ≡ Some n = subst (λ (k : ℕ). message_at k (put_message n b.messages) ≡ Some n) same
    (message_at-put_same n b.messages a.message was) in
    let passes : modseq < a.modseq = omega arith in
    subst (λ (x : Mailbox). StoreFacts uid modseq later x) (sym a.becomes) (record {
      highest = omega arith;
      below = f.below;
      passed = λ some. subst (λ (o : Option Message). RowAbove modseq o) (sym now) passes;
    })

shift_acts : (uid floor : ℕ) (mine later : List Deed) (b c : Mailbox) → Drops floor uid b c → ShiftFacts uid mine b → ShiftFacts uid later c
shift_acts uid floor before later b c a f =
    subst (λ (x : Mailbox). ShiftFacts uid later x) (sym a.becomes) (record {
      below = f.below;
      left = λ some. message_at-without uid b.messages;
    })

at_least_push : (low u : ℕ) (us : List ℕ) → low ≤ u → at_least low (us ++ u ∷ []) ≡ at_least low us ++ u ∷ []
at_least_push low u [] l = cond-true (leb low u) (u ∷ []) [] (le-leb low u l)
at_least_push low u (x ∷ xs) l =
    cond_two (leb low x) (x ∷ at_least low (xs ++ u ∷ [])) (at_least low (xs ++ u ∷ [])) (x ∷ at_least low xs) (at_least low xs)
    (λ (a c : List ℕ). a ≡ c ++ u ∷ [])
    (λ _. ap (λ (k : List ℕ). x ∷ k) (at_least_push low u xs l)) (λ _. at_least_push low u xs l)

some_push : (u : ℕ) (us : List ℕ) → some_of (us ++ u ∷ []) ≡ some_of us ++ Some u ∷ []
some_push u [] = refl
some_push u (x ∷ xs) = ap (λ (k : List (Option ℕ)). Some x ∷ k) (some_push u xs)

put_acts : (id : List ℕ) (uidnext validity floor : ℕ) (flags : List (List ℕ)) (text : List ℕ) (uid : ℕ) (d : Deed) (b c : Mailbox) →
    has_id id text ≡ true → d.received ≡ validity → new_uid d.change ≡ Some uid →
    Adds floor flags text uid b c → PutFacts id uidnext validity [] b → PutFacts id uidnext validity (d ∷ []) c
put_acts id uidnext validity floor flags text uid d b c is r gives a f =
    let m : Message = record { uid = uid; flags = flags; modseq = a.modseq; text = text } in
    let fresh : b.uidnext ≤ uid = a.fresh in
    let beyond : uid < a.next = a.beyond in
    let reached : uidnext ≤ b.uidnext = f.reached in
    let found : some_of (at_least uidnext (marked id (b.messages ++ m ∷ []))) ≡ new_uid d.change ∷ [] =
    ap (λ (l : List ℕ). some_of (at_least uidnext l)) (marked_push id m b.messages is)
    ∙ ap some_of (at_least_push uidnext uid (marked id b.messages) (omega arith))
    ∙ some_push uid (at_least uidnext (marked id b.messages))
    ∙ ap (λ (l : List (Option ℕ)). l ++ Some uid ∷ []) f.found
    ∙ ap (λ (o : Option ℕ). o ∷ []) (sym gives) in
    subst (λ (x : Mailbox). PutFacts id uidnext validity (d ∷ []) x) (sym a.becomes) (record {
      reached = omega arith;
      found = found;
      received = (r, tt);
    })

-- flags that are set leave the UIDVALIDITY
sets_validity : (floor uid : ℕ) (flags : List (List ℕ)) (b c : Mailbox) → Sets floor uid flags b c → c.validity ≡ b.validity
sets_validity floor uid flags b c a = ap (λ (x : Mailbox). x.validity) a.becomes

module _ (b : Meaning) (s t : Server) (waiting : Option Waiting) (kept : KeptBook b s waiting) (w : Waiting) (of : IsOf b s w) where
  command_is : (action : Action) (intent : Intent) → of.queued.action ≡ action → of.intent ≡ intent →
      command_of (tag_of (suc (due b.queue)) of.queued) action intent ≡ Some w
  command_is action intent a i =
      sym (ap (λ (x : Action). command_of (tag_of (suc (due b.queue)) of.queued) x of.intent) a ∙ ap
      (λ (y : Intent). command_of (tag_of (suc (due b.queue)) of.queued) action y) i) ∙ of.is

  opened : (action : Action) (intent : Intent) → of.queued.action ≡ action → of.intent ≡ intent → IsOpen action [] intent s.boxes
  opened action intent a i =
      subst (λ (l : List Deed). IsOpen action l intent s.boxes) of.none
      (subst (λ (x : Intent). IsOpen action (ours (suc (due b.queue)) s.history) x s.boxes) i
      (subst (λ (x : Action). IsOpen x (ours (suc (due b.queue)) s.history) of.intent s.boxes) a
      (kept.open_intent of.intent of.pending of.queued of.there)))

  suited : (action : Action) (intent : Intent) → of.queued.action ≡ action → of.intent ≡ intent → Suited b.queue action intent
  suited action intent a i =
      let h : HasIntent b of.intent = kept.sound.intent of.intent of.pending in
      let q : h.queued ≡ of.queued = same_Some h.queued of.queued (sym h.there ∙ of.there) in
      subst (λ (x : Intent). Suited b.queue action x) i
      (subst (λ (x : Action). Suited b.queue x of.intent) (ap (λ (x : Queued). x.action) q ∙ a) (is_suited b.queue h.queued.action of.intent h.suits_it))

  -- the selected mailbox has the intent's UIDVALIDITY
  box_is : (action : Action) (intent : Intent) (x : Mailbox) → of.queued.action ≡ action → of.intent ≡ intent →
      box_at (intent_name intent) s.boxes ≡ Some x → x.validity ≡ intent_validity intent
  box_is action intent x a i e =
      let u : InBoxNow (λ _. Unit {0}) (intent_name intent) (intent_validity intent) s.boxes =
      subst (λ (y : Intent). InBoxNow (λ _. Unit {0}) (intent_name y) (intent_validity y) s.boxes) i of.at in
      ap (λ (y : Mailbox). y.validity) (same_Some x u.box (sym e ∙ u.there)) ∙ u.same

  -- the facts of the open intent at its mailbox
  facts_at : (action : Action) (intent : Intent) (x : Mailbox) → of.queued.action ≡ action → of.intent ≡ intent →
      box_at (intent_name intent) s.boxes ≡ Some x → IntentFacts action [] intent x
  facts_at action intent x a i e =
      let o : InBox (IntentFacts action [] intent) (intent_name intent) (intent_validity intent) s.boxes = opened action intent a i in
      let is : o.box ≡ x = same_Some o.box x (sym o.there ∙ e) in
      subst (λ (y : Mailbox). IntentFacts action [] intent y) is
      (o.facts (ap (λ (y : Mailbox). y.validity) is ∙ box_is action intent x a i e))

  -- the change of the pending intent was made
  acts : (action : Action) (intent : Intent) → of.queued.action ≡ action → of.intent ≡ intent → (name : List ℕ) (change : Change) →
      Changes s.boxes (Ours (tag_of (suc (due b.queue)) of.queued)) name change s t →
      IsWanted b.queue action name (validity_of (box_at name t.boxes)) change → (x : Mailbox) → box_at (receiver name change) t.boxes ≡ Some x →
      IsOpen action (deed_of (Ours (tag_of (suc (due b.queue)) of.queued)) name change t.boxes ∷ []) intent t.boxes → KeptBook b t None
  acts action intent a i name change becomes wanted x put open_now =
      acted b s t waiting kept of.intent of.queued of.pending of.there of.none (tag_of (suc (due b.queue)) of.queued)
      (tag_is b kept.sound (due b.queue) of.queued of.there) name change becomes
      (subst (λ (y : Action). IsWanted b.queue y name (validity_of (box_at name t.boxes)) change) (sym a) wanted) x put
      (subst (λ (x : Action). IsOpen x (deed_of (Ours (tag_of (suc (due b.queue)) of.queued)) name change t.boxes ∷ []) of.intent t.boxes) (sym a)
      (subst (λ (x : Intent). IsOpen action (deed_of (Ours (tag_of (suc (due b.queue)) of.queued)) name change t.boxes ∷ []) x t.boxes) (sym i) open_now))

  stored : (target : Target) (add : Bool) (asked : List (List ℕ)) (name : List ℕ) (validity uid modseq : ℕ) →
      of.queued.action ≡ actions.Flag target add asked → of.intent ≡ intents.Store name validity uid modseq →
      Stores (tag_of (suc (due b.queue)) of.queued) (Some name) uid modseq add asked s t → KeptBook b t None
  stored target add asked name validity uid modseq a i e =
      let named : e.found.name ≡ name = sym (same_Some name e.found.name e.found.is_selected) in
      let becomes : Changes s.boxes (Ours (tag_of (suc (due b.queue)) of.queued)) name (changes.SetFlags uid e.flags) s t =
      subst (λ (k : List ℕ). Changes s.boxes (Ours (tag_of (suc (due b.queue)) of.queued)) k (changes.SetFlags uid e.flags) s t) named e.becomes in
      let r : Rewrites (Sets (floor_of s.boxes name) uid e.flags) name s.boxes t.boxes = becomes.effect in
      let there : box_at name t.boxes ≡ Some r.after = set_there (floor_of s.boxes name) uid e.flags name s.boxes t.boxes r in
      let before_v : r.before.validity ≡ validity = box_is (actions.Flag target add asked) (intents.Store name validity uid modseq) r.before a i r.there in
      let after_v : r.after.validity ≡ validity = sets_validity (floor_of s.boxes name) uid e.flags r.before r.after r.becomes ∙ before_v in
      let now_v : validity_of (box_at name t.boxes) ≡ validity = ap validity_of there ∙ after_v in
      let mine : List Deed = deed_of (Ours (tag_of (suc (due b.queue)) of.queued)) name (changes.SetFlags uid e.flags) t.boxes ∷ [] in
      acts (actions.Flag target add asked) (intents.Store name validity uid modseq) a i name (changes.SetFlags uid e.flags) becomes (
        subst (λ (v : ℕ). resolved b.queue target ≡ found.Real name v uid) (sym now_v)
            (suited (actions.Flag target add asked) (intents.Store name validity uid modseq) a i),
        key_with add asked e.found.message.flags e.flags e.changed,
      ) r.after there
      (record {
        box = r.after;
        there = there;
        not_below = omega arith;
        facts = λ _.
            store_acts uid modseq (floor_of s.boxes name) e.flags [] mine r.before r.after (ap highest_of r.there) r.becomes
            (facts_at (actions.Flag target add asked) (intents.Store name validity uid modseq) r.before a i r.there);
      })

  moved : (target : Target) (to from : List ℕ) (validity uid : ℕ) (other : List ℕ) →
      of.queued.action ≡ actions.Move target other → of.intent ≡ intents.Shift from validity uid to →
      Moves (tag_of (suc (due b.queue)) of.queued) (Some from) uid to s t → KeptBook b t None
  moved target to from validity uid other a i e =
      let named : e.found.name ≡ from = sym (same_Some from e.found.name e.found.is_selected) in
      let becomes : Changes s.boxes (Ours (tag_of (suc (due b.queue)) of.queued)) from (changes.Shift uid to e.received) s t =
      subst (λ (k : List ℕ). Changes s.boxes (Ours (tag_of (suc (due b.queue)) of.queued)) k (changes.Shift uid to e.received) s t) named e.becomes in
      let h : Shifts (floor_of s.boxes) from uid to e.received s.boxes t.boxes = becomes.effect in
      let there : box_at from t.boxes ≡ Some h.leaves.after = left_there (floor_of s.boxes) from uid to e.received s.boxes t.boxes h in
      let before_v : h.leaves.before.validity ≡ validity = box_is (actions.Move target other)
      (intents.Shift from validity uid to) h.leaves.before a i h.leaves.there in
      let after_v : h.leaves.after.validity ≡ validity = ap (λ (y : Mailbox). y.validity) h.leaves.becomes.becomes ∙ before_v in
      let now_v : validity_of (box_at from t.boxes) ≡ validity = ap validity_of there ∙ after_v in
      let mine : List Deed = deed_of (Ours (tag_of (suc (due b.queue)) of.queued)) from (changes.Shift uid to e.received) t.boxes ∷ [] in
      let fits : Suited b.queue (actions.Move target other) (intents.Shift from validity uid to) = suited (actions.Move target other)
      (intents.Shift from validity uid to) a i in
      acts (actions.Move target other) (intents.Shift from validity uid to) a i from (changes.Shift uid to e.received) becomes
      (subst (λ (v : ℕ). resolved b.queue target ≡ found.Real from v uid) (sym now_v) fits.0, fits.1) h.comes.after
      (added_there (floor_of s.boxes to) h.message.flags h.message.text e.received to h.middle t.boxes h.comes)
      (record {
        box = h.leaves.after;
        there = there;
        not_below = omega arith;
        facts = λ _.
            shift_acts uid (floor_of s.boxes from) [] mine h.leaves.before h.leaves.after h.leaves.becomes
            (facts_at (actions.Move target other) (intents.Shift from validity uid to) h.leaves.before a i h.leaves.there);
      })

  appended : (other : List ℕ) (flags : List (List ℕ)) (text id to : List ℕ) (validity uidnext : ℕ) →
      of.queued.action ≡ actions.Append other flags text id → of.intent ≡ intents.Put to validity uidnext →
      Appends (tag_of (suc (due b.queue)) of.queued) to flags text s t → KeptBook b t None
  appended other flags text id to validity uidnext a i e =
      let r : Rewrites (Adds (floor_of s.boxes to) flags text e.uid) to s.boxes t.boxes = e.becomes.effect in
      let there : box_at to t.boxes ≡ Some r.after = added_there (floor_of s.boxes to) flags text e.uid to s.boxes t.boxes r in
      let before_v : r.before.validity ≡ validity = box_is (actions.Append other flags text id) (intents.Put to validity uidnext) r.before a i r.there in
      let after_v : r.after.validity ≡ validity = ap (λ (y : Mailbox). y.validity) r.becomes.becomes ∙ before_v in
      let now_v : validity_of (box_at to t.boxes) ≡ validity = ap validity_of there ∙ after_v in
      let d : Deed = deed_of (Ours (tag_of (suc (due b.queue)) of.queued)) to (changes.Add flags text e.uid) t.boxes in
      let writable : IsWritableAction (actions.Append other flags text id) =
      subst IsWritableAction a (kept.sound.writable (due b.queue) of.queued of.there) in
      acts (actions.Append other flags text id) (intents.Put to validity uidnext) a i to (changes.Add flags text e.uid) e.becomes
      (suited (actions.Append other flags text id) (intents.Put to validity uidnext) a i, refl, refl) r.after there
      (record {
        box = r.after;
        there = there;
        not_below = omega arith;
        facts = λ _.
            put_acts id uidnext validity (floor_of s.boxes to) flags text e.uid d r.before r.after
            (has_its_id text id writable.1) now_v refl r.becomes
            (facts_at (actions.Append other flags text id) (intents.Put to validity uidnext) r.before a i r.there);
      })

  -- nothing was done
  pub rested : t ≡ s → KeptBook b t None
  rested e = subst (λ (x : Server). KeptBook b x None) (sym e) (record {
    sound = kept.sound;
    well = kept.well;
    once = kept.once;
    open_intent = kept.open_intent;
    fresh = kept.fresh;
    reached = kept.reached;
    waits = λ m. absurd (nothing_waits m);
  })

  told : (x : Waiting) → Some x ≡ Some w → Accepted w.selected w.tag w.command s t → Accepted x.selected x.tag x.command s t
  told x e a = subst (λ (y : Waiting). Accepted y.selected y.tag y.command s t) (sym (same_Some x w e)) a

  by_kind : (action : Action) (intent : Intent) → of.queued.action ≡ action → of.intent ≡ intent → Accepted w.selected w.tag w.command s t → KeptBook b t None
  by_kind (actions.Flag target add flags) (intents.Store name validity uid modseq) a i e =
      ⊎_elim (stored target add flags name validity uid modseq a i) (λ (n : StoresNothing (Some name) uid modseq s t). rested n.stays)
      (told (record { selected = Some name; tag = tag_of (suc (due b.queue)) of.queued; command = commands.Store uid modseq add flags })
      (command_is (actions.Flag target add flags) (intents.Store name validity uid modseq) a i) e)
  by_kind (actions.Move target other) (intents.Shift from validity uid to) a i e =
      ⊎_elim (moved target to from validity uid other a i) (λ (n : MovesNothing (Some from) uid s t). rested n.stays)
      (told (record { selected = Some from; tag = tag_of (suc (due b.queue)) of.queued; command = commands.Shift uid to })
      (command_is (actions.Move target other) (intents.Shift from validity uid to) a i) e)
  by_kind (actions.Append other flags text id) (intents.Put to validity uidnext) a i e =
      appended other flags text id to validity uidnext a i
      (told (record { selected = Some to; tag = tag_of (suc (due b.queue)) of.queued; command = commands.Append to flags text })
      (command_is (actions.Append other flags text id) (intents.Put to validity uidnext) a i) e)
  by_kind (actions.Flag target add flags) (intents.Shift from validity uid to) a i e =
      absurd (suited (actions.Flag target add flags) (intents.Shift from validity uid to) a i)
  by_kind (actions.Flag target add flags) (intents.Put to validity uidnext) a i e =
      absurd (suited (actions.Flag target add flags) (intents.Put to validity uidnext) a i)
  by_kind (actions.Move target to) (intents.Store name validity uid modseq) a i e =
      absurd (suited (actions.Move target to) (intents.Store name validity uid modseq) a i)
  by_kind (actions.Move target to) (intents.Put other validity uidnext) a i e =
      absurd (suited (actions.Move target to) (intents.Put other validity uidnext) a i)
  by_kind (actions.Append to flags text id) (intents.Store name validity uid modseq) a i e =
      absurd (suited (actions.Append to flags text id) (intents.Store name validity uid modseq) a i)
  by_kind (actions.Append to flags text id) (intents.Shift from validity uid other) a i e =
      absurd (suited (actions.Append to flags text id) (intents.Shift from validity uid other) a i)

  pub carried : Accepted w.selected w.tag w.command s t → KeptBook b t None
  carried e = by_kind of.queued.action of.intent refl refl e

-- what the book may record once the command was carried out
module _ (b : Meaning) (s t : Server) (waiting : Option Waiting) (kept : KeptBook b s waiting) (w : Waiting) (of : IsOf b s w) where
  one_deed : (name : List ℕ) (change : Change) → Changes s.boxes (Ours (tag_of (suc (due b.queue)) of.queued)) name change s t →
      ours (suc (due b.queue)) t.history ≡ deed_of (Ours (tag_of (suc (due b.queue)) of.queued)) name change t.boxes ∷ []
  one_deed name change e =
      mine b s t waiting kept of.intent of.queued of.pending of.there of.none (tag_of (suc (due b.queue)) of.queued)
      (tag_is b kept.sound (due b.queue) of.queued of.there) name change e

  pub store_done : (selected : Option (List ℕ)) (uid since : ℕ) (add : Bool) (asked : List (List ℕ)) →
      Stores (tag_of (suc (due b.queue)) of.queued) selected uid since add asked s t →
      Fits (outcomes.Done None) (ours (suc (due b.queue)) t.history)
  store_done selected uid since add asked e =
      subst (λ (l : List Deed). Fits (outcomes.Done None) l) (sym (one_deed e.found.name (changes.SetFlags uid e.flags) e.becomes)) tt

  pub move_done : (selected : Option (List ℕ)) (uid : ℕ) (to : List ℕ) (e : Moves (tag_of (suc (due b.queue)) of.queued) selected uid to s t) →
      Fits (outcomes.Done (Some (record { validity = validity_of (box_at to t.boxes); uid = e.received }))) (ours (suc (due b.queue)) t.history)
  move_done selected uid to e =
      subst (λ (l : List Deed). Fits (outcomes.Done (Some (record { validity = validity_of (box_at to t.boxes); uid = e.received }))) l)
      (sym (one_deed e.found.name (changes.Shift uid to e.received) e.becomes)) (refl, refl)

  pub append_done : (to : List ℕ) (flags : List (List ℕ)) (text : List ℕ) (e : Appends (tag_of (suc (due b.queue)) of.queued) to flags text s t) →
      Fits (outcomes.Done (Some (record { validity = validity_of (box_at to t.boxes); uid = e.uid }))) (ours (suc (due b.queue)) t.history)
  append_done to flags text e =
      subst (λ (l : List Deed). Fits (outcomes.Done (Some (record { validity = validity_of (box_at to t.boxes); uid = e.uid }))) l)
      (sym (one_deed to (changes.Add flags text e.uid) e.becomes)) (refl, refl)

  pub nothing_done : t ≡ s → ours (suc (due b.queue)) t.history ≡ []
  nothing_done e = ap (λ (x : Server). ours (suc (due b.queue)) x.history) e ∙ of.none

-- a command that doesn't change anything
pub harmless : (selected : Option (List ℕ)) (tag : Tag) (command : Command) (s t : Server) → is_mutating command ≡ false →
    Accepted selected tag command s t → t ≡ s
harmless selected tag (commands.Store uid since add flags) s t = λ f e. absurd (cc)
harmless selected tag (commands.Shift uid to) s t = λ f e. absurd (cc)
harmless selected tag (commands.Copy uid to) s t = λ f e. absurd (cc)
harmless selected tag (commands.Expunge uid) s t = λ f e. absurd (cc)
harmless selected tag (commands.Append to flags text) s t = λ f e. absurd (cc)
harmless selected tag commands.Capability s t = λ f e. e
harmless selected tag (commands.Login account) s t = λ f e. e
harmless selected tag (commands.Plain account) s t = λ f e. e
harmless selected tag (commands.Enable rev2) s t = λ f e. e
harmless selected tag (commands.Select name since) s t = λ f e. e
harmless selected tag commands.FetchAll s t = λ f e. e
harmless selected tag (commands.FetchRow uid) s t = λ f e. e
harmless selected tag (commands.Search from id) s t = λ f e. e
harmless selected tag (commands.FetchIds uids) s t = λ f e. e
harmless selected tag (commands.FetchText uid) s t = λ f e. e
harmless selected tag commands.Logout s t = λ f e. e

-- none of these is of a book yet
stays_before : (s t : Server) (w : Waiting) → KeptBefore s (Some w) → t ≡ s → KeptBefore t None
stays_before s t w k e = subst (λ (x : Server). KeptBefore x None) (sym e) (record { well = k.well; none = k.none; quiet = nothing_waits })

accepted_book : (b : Meaning) (s t : Server) (w : Waiting) → KeptBook b s (Some w) → Accepted w.selected w.tag w.command s t → (m : Bool) →
    is_mutating w.command ≡ m → KeptBook b t None
accepted_book b s t w k e true m = carried b s t (Some w) k w (k.waits (record { command = w; waits = refl; mutating = m })) e
accepted_book b s t w k e false m = subst (λ (x : Server). KeptBook b x None) (sym (harmless w.selected w.tag w.command s t m e)) (record {
  sound = k.sound;
  well = k.well;
  once = k.once;
  open_intent = k.open_intent;
  fresh = k.fresh;
  reached = k.reached;
  waits = λ n. absurd (nothing_waits n);
})

accepted_before : (s t : Server) (w : Waiting) → KeptBefore s (Some w) → Accepted w.selected w.tag w.command s t → (m : Bool) →
    is_mutating w.command ≡ m → t ≡ s
accepted_before s t w k e true m = absurd (k.quiet (record { command = w; waits = refl; mutating = m }))
accepted_before s t w k e false m = harmless w.selected w.tag w.command s t m e

pub carries_book : (b : Option Meaning) (s t : Server) (w : Waiting) → Kept b s (Some w) → Carries w s t → Kept b t None
carries_book None s t w k (inl e) = stays_before s t w k e
carries_book None s t w k (inr e) = stays_before s t w k (accepted_before s t w k e (is_mutating w.command) refl)
carries_book (Some b) s t w k (inl e) = subst (λ (x : Server). KeptBook b x None) (sym e) (record {
  sound = k.sound;
  well = k.well;
  once = k.once;
  open_intent = k.open_intent;
  fresh = k.fresh;
  reached = k.reached;
  waits = λ n. absurd (nothing_waits n);
})
carries_book (Some b) s t w k (inr e) = accepted_book b s t w k e (is_mutating w.command) refl
