-- A book is played back, call by call: the link's calls leave it, and a record begins an event and makes it firm.
use Rattle.action_queue.specs.Book.{Meaning, after, cache_at, learned, put_cache}
use Rattle.action_queue.specs.Queues.{change_first, change_queued, settled, tried}
use Rattle.action_queue.specs.declared.action.Action.{Action}
use Rattle.action_queue.specs.declared.book.Known.{Known}
use Rattle.action_queue.specs.declared.event.Event.{Event}
use Rattle.action_queue.specs.declared.outcome.Outcome.{Outcome}
use Rattle.action_queue.specs.declared.queued.Queued.{Queued}
use Rattle.imap_model.specs.Talking.{Peer}
use Rattle.journal_core.specs.OneSide.{AnyNext, EachOneSide}
use Rattle.journal_core.specs.declared.version.Version.{Version}
use Rattle.mailbox_cache.specs.declared.cache.Cache.{Cache}
use Rattle.play_driver.proofs.Links.{books_there}
use Rattle.play_driver.proofs.Parts.{grows}
use Rattle.play_driver.specs.Joining.{Grows}
use Rattle.play_driver.specs.Progress.{BeginsPlay, HoldsLater, IsLater, IsPlayEvent, IsPlaying, PlayStep, Progresses}
use Rattle.std.proofs.Common.{Bool, List, None, Option, Some, [], ap, cond, false, inl, inr, refl, subst, suc, sym, true, zero}
use Rattle.std.proofs.Common.{ℕ, ◌∙◌, ◌∷◌, ◌≡◌, ◌≢◌, ◌⊎◌}
use Rattle.std.proofs.lemmas.Option.{same_Some}
use Rattle.std.specs.Prelude.{bytes_eq, map, slice_get}
use Rattle.store_core.proofs.Choosing.{only_left}
use Rattle.store_core.proofs.Phases.{steps_of}
use Rattle.store_core.specs.Books.{HoldsBook}
use Rattle.store_core.specs.Holding.{Holding, IsAsLeft}
use Rattle.store_core.specs.Mail.{MayCome, mail}
use Rattle.store_core.specs.Steps.{Begins, Books, Firm, MakesFirm}
use Rattle.store_core.specs.Taking.{HasBooks, IsTaking, Takes, TakesStep}
use Rattle.world_traits.proofs.OneSide.{one_at_rest}
use Rattle.world_traits.proofs.Passing.{since_start, since_then, since_weaker}
use Rattle.world_traits.proofs.Traces.{carried_now, since_carry}
use Rattle.world_traits.specs.Files.{Files, Stored}
use Rattle.world_traits.specs.Links.{Any, LinkStep, Linked}
use Rattle.world_traits.specs.Moments.{Clock, GoesOn, Moment, OneSideAtRest, stored}
use Rattle.world_traits.specs.declared.disk.Side.{Side}
use Rattle.world_traits.specs.declared.disk.Side.TheVariants.{Left, Right}
use Rattle.action_queue.specs.declared.event.Event.TheVariants as events

-- the names stay where a cache is put
module _ (name : List ℕ) (cache : Option Cache) where
  abbrev names_of : List Known → List (List ℕ)
  names_of boxes = map (λ (k : Known). k.name) boxes

  name_put : (k : Known) (ks : List Known) → names_of (put_cache name cache ks) ≡ names_of ks → (test : Bool) →
      names_of (cond test (record k { cache = cache } ∷ ks) (k ∷ put_cache name cache ks)) ≡ k.name ∷ names_of ks
  name_put k ks later true = refl
  name_put k ks later false = ap (λ (ns : List (List ℕ)). k.name ∷ ns) later

  pub names_put : (boxes : List Known) → names_of (put_cache name cache boxes) ≡ names_of boxes
  names_put [] = refl
  names_put (k ∷ ks) = name_put k ks (names_put ks) (bytes_eq k.name name)

-- the first unsettled action changes, but what it asks for: the actions are the same, and each outcome stays
module _ (f : Queued → Queued) (asks : (q : Queued) → (f q).action ≡ q.action) where
  abbrev acts : List Queued → List Action
  acts queue = map (λ (q : Queued). q.action) queue

  act_changed : (q : Queued) (qs changed : List Queued) → acts changed ≡ acts qs → (o : Option Outcome) →
      acts (change_queued f q qs changed o) ≡ q.action ∷ acts qs
  act_changed q qs changed later None = ap (λ (a : Action). a ∷ acts qs) (asks q)
  act_changed q qs changed later (Some old) = ap (λ (actions : List Action). q.action ∷ actions) later

  acts_changed : (qs : List Queued) → acts (change_first f qs) ≡ acts qs
  acts_changed [] = refl
  acts_changed (q ∷ qs) = act_changed q qs (change_first f qs) (acts_changed qs) q.outcome

  outcome_stays : (q : Queued) (qs changed : List Queued) →
      ((i : ℕ) (x : Queued) → slice_get qs i ≡ Some x → x.outcome ≢ None → slice_get changed i ≡ Some x) →
      (o : Option Outcome) → q.outcome ≡ o → (i : ℕ) (x : Queued) → slice_get (q ∷ qs) i ≡ Some x → x.outcome ≢ None →
      slice_get (change_queued f q qs changed o) i ≡ Some x
  outcome_stays q qs changed later None is zero x there has = absurd (has (sym (ap (λ (y : Queued). y.outcome) (same_Some q x there)) ∙ is))
  outcome_stays q qs changed later None is (suc i) x there has = there
  outcome_stays q qs changed later (Some old) is zero x there has = there
  outcome_stays q qs changed later (Some old) is (suc i) x there has = later i x there has

  outcomes_stay : (qs : List Queued) (i : ℕ) (x : Queued) → slice_get qs i ≡ Some x → x.outcome ≢ None →
      slice_get (change_first f qs) i ≡ Some x
  outcomes_stay [] i x = λ there. absurd cc
  outcomes_stay (q ∷ qs) i x = λ there has.
      outcome_stays q qs (change_first f qs) (outcomes_stay qs) q.outcome refl i x there has

-- further on
pub later_start : (b : Meaning) → IsLater b b
later_start b = record { names = refl; actions = refl; outcomes = λ i q there has. there }

pub later_then : (b c d : Meaning) → IsLater b c → IsLater c d → IsLater b d
later_then b c d p q = record {
  names = q.names ∙ p.names;
  actions = q.actions ∙ p.actions;
  outcomes = λ i x there has. q.outcomes i x (p.outcomes i x there has) has;
}

pub later_event : (b : Meaning) (event : Event) → IsPlayEvent event → IsLater b (after b event)
later_event b (events.Begin names) of_play = absurd of_play
later_event b (events.Accept id action) of_play = absurd of_play
later_event b (events.Intend id intent) of_play = record { names = refl; actions = refl; outcomes = λ i q there has. there }
later_event b (events.Settle id outcome) of_play =
    record {
      names = refl;
      actions = acts_changed (settled outcome) (λ q. refl) b.queue;
      outcomes = λ i q there has. outcomes_stay (settled outcome) (λ q. refl) b.queue i q there has;
    }
later_event b (events.Learn name delta) of_play =
    record { names = names_put name (Some (learned (cache_at name b.boxes) delta)) b.boxes; actions = refl; outcomes = λ i q there has. there }
later_event b (events.Old id action outcome) of_play = absurd of_play
later_event b (events.Reset name kept told) of_play =
    record { names = names_put name None b.boxes; actions = refl; outcomes = λ i q there has. there }
later_event b (events.Withdraw id tries) of_play =
    record {
      names = refl;
      actions = acts_changed (tried tries) (λ q. refl) b.queue;
      outcomes = λ i q there has. outcomes_stay (tried tries) (λ q. refl) b.queue i q there has;
    }

-- a call of no moment
pub progress_start : (b : Meaning) (k : Clock) → Progresses b k k
progress_start b k = since_start (IsPlaying b) PlayStep k

-- calls one behind the other
module _ (b c : Meaning) (later : IsLater b c) where
  from_here : (files : Files) → HoldsLater c files → HoldsLater b files
  from_here files h = record { book = h.book; holds = h.holds; later = later_then b c h.book later h.later }

  pub progress_then : (old mid new : Clock) → Progresses b old mid → Progresses c mid new → Progresses b old new
  progress_then old mid new first second =
      since_then (IsPlaying b) PlayStep old mid new first
      (since_weaker (IsPlaying c) (IsPlaying b) PlayStep PlayStep (λ m l. record { each = λ files h. from_here files (l.each files h) }) (λ m n s. s)
      mid new second)

-- time goes on meanwhile
pub progress_grows : (b : Meaning) (old new : Clock) → Progresses b old new → Grows old new
progress_grows b old new p = grows (IsPlaying b) PlayStep old new p

module _ (b : Meaning) where
  -- the link is called
  pub linked_progress : (S : Peer → Peer → Type 0) (old new : Clock) → HasBooks mail (Firm (Some b)) old.now → Linked S old new → Progresses b old new
  linked_progress S old new has linked =
      let x : Books mail = Firm (Some b) in
      since_weaker (λ m. Any m × HasBooks mail x m) (IsPlaying b) (λ m n. HasBooks mail x m × LinkStep S m n) PlayStep
      (λ m p. record { each = λ files h. record { book = b; holds = p.1.each.each files h; later = later_start b } })
      (λ m n s. record { old = x; new = x; at_old = s.0; at_new = books_there S m n s.1 mail x s.0; step = inl refl }) old new
      (since_carry Any (HasBooks mail x) (LinkStep S) (λ m n any s h. books_there S m n s mail x h) old has new linked)

  -- an event is recorded
  module _ (version : Version) (event : Event) (of_play : IsPlayEvent event) (may : MayCome version (Some b) event) where
    one_of_both : (files : Files) → HoldsBook mail (Some b) files ⊎ HoldsBook mail (Some (after b event)) files → HoldsLater b files
    one_of_both files (inl h) = record { book = b; holds = h; later = later_start b }
    one_of_both files (inr h) = record { book = after b event; holds = h; later = later_event b event of_play }

    as_played : (old new : Books mail) → (new ≡ old) ⊎ Begins mail version event old new ⊎ MakesFirm mail old new →
        (new ≡ old) ⊎ BeginsPlay old new ⊎ MakesFirm mail old new
    as_played old new (inl same) = inl same
    as_played old new (inr (inl begins)) = inr (inl (record { version = version; event = event; of_play = of_play; begins = begins }))
    as_played old new (inr (inr firm)) = inr (inr firm)

    pub takes_progress : (old new : Clock) → Takes mail (Some b) event old new → Progresses b old new
    takes_progress old new takes =
        since_weaker (IsTaking mail (Some b) event) (IsPlaying b) (TakesStep mail version event) PlayStep
        (λ m p. record { each = λ files h. one_of_both files (p.each files h) })
        (λ m n s. record { old = s.old; new = s.new; at_old = s.at_old; at_new = s.at_new; step = as_played s.old s.new s.step }) old new
        (steps_of mail version b event may old new takes)

-- Where a store's call left the disk, its book is firm, and all is on the disk.
module _ (store : Holding mail) (k : Clock) (seen : Files) (left : IsAsLeft mail store k.now seen) where
  pub firm_left : HasBooks mail (Firm (Some store.book)) k.now
  firm_left = only_left mail store k.now seen left

  pub rests_left : OneSideAtRest k.now
  rests_left = one_at_rest k.now seen left.still.rests

-- link calls leave one side at rest
same_side : (S : Peer → Peer → Type 0) (side : Side) (m n : Moment) → LinkStep S m n → stored side n ≡ stored side m
same_side S Left m n s = s.left
same_side S Right m n s = s.right

side_there : (S : Peer → Peer → Type 0) (m n : Moment) → LinkStep S m n → OneSideAtRest m → OneSideAtRest n
side_there S m n s one = record { side = one.side; rests = ap (λ (f : Stored). f.written) (same_side S one.side m n s) ∙ one.rests }

pub linked_sides : (S : Peer → Peer → Type 0) (old new : Clock) → OneSideAtRest old.now → Linked S old new → EachOneSide old new
linked_sides S old new one linked =
    since_weaker (λ m. Any m × OneSideAtRest m) OneSideAtRest (λ m n. OneSideAtRest m × LinkStep S m n) AnyNext (λ m p. p.1) (λ m n s. tt) old new
    (since_carry Any OneSideAtRest (LinkStep S) (λ m n any s h. side_there S m n s h) old one new linked)

pub sides_then : (old mid new : Clock) → EachOneSide old mid → EachOneSide mid new → EachOneSide old new
sides_then old mid new a b = since_then OneSideAtRest AnyNext old mid new a b

pub sides_start : (k : Clock) → EachOneSide k k
sides_start k = since_start OneSideAtRest AnyNext k

-- Where the disk broke a record off, the event is there or not.
module _ (store : Holding mail) (event : Event) where
  pub there_or_not : (old new : Clock) (seen : Files) → IsAsLeft mail store old.now seen → Takes mail (Some store.book) event old new →
      (b : Meaning) → b ≡ store.book → IsTaking mail (Some b) event new.now
  there_or_not old new seen left takes b same =
      let firm = firm_left store old seen left in
      let start : IsTaking mail (Some store.book) event old.now = record { each = λ files h. inl (firm.each.each files h) } in
      subst (λ (c : Meaning). IsTaking mail (Some c) event new.now) (sym same)
      (carried_now (IsTaking mail (Some store.book) event) (IsTaking mail (Some store.book) event)
      (GoesOn (HoldsBook mail (Some store.book)) (HoldsBook mail (Some (after store.book event)))) (λ m n here s before. here) old start new takes)

-- time goes on while an event is recorded, and what isn't on the disk stays
pub takes_grows : (b : Meaning) (event : Event) (old new : Clock) → Takes mail (Some b) event old new → Grows old new
takes_grows b event old new takes =
    grows (IsTaking mail (Some b) event) (GoesOn (HoldsBook mail (Some b)) (HoldsBook mail (Some (after b event)))) old new takes

pub outside_taken : (b : Meaning) (event : Event) (old new : Clock) → Takes mail (Some b) event old new → new.now.outside ≡ old.now.outside
outside_taken b event old new takes =
    carried_now (IsTaking mail (Some b) event) (λ m. m.outside ≡ old.now.outside)
    (GoesOn (HoldsBook mail (Some b)) (HoldsBook mail (Some (after b event)))) (λ m n p s before. s.outside ∙ before) old refl new takes
