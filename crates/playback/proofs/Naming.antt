-- The UIDVALIDITY that a mailbox is to have for the action that is due isn't above its own: so a SELECT never tells a lower one.
use Rattle.action_queue.specs.Book.{Meaning}
use Rattle.action_queue.specs.Queues.{due, due_action}
use Rattle.action_queue.specs.Rules.{suits}
use Rattle.action_queue.specs.Targets.{landed, landed_in, landed_queued, resolved}
use Rattle.action_queue.specs.declared.action.Action.{Action}
use Rattle.action_queue.specs.declared.outcome.Outcome.{Outcome}
use Rattle.action_queue.specs.declared.outcome.Place.{Place}
use Rattle.action_queue.specs.declared.queued.Queued.{Queued}
use Rattle.action_queue.specs.declared.target.Target.{Target}
use Rattle.imap_model.proofs.Finding.{same_name}
use Rattle.imap_model.specs.Carrying.{Waiting}
use Rattle.imap_model.specs.Changes.{receiver}
use Rattle.imap_model.specs.Lookups.{box_at}
use Rattle.imap_model.specs.Ours.{is_number, is_ours, is_try, ours}
use Rattle.imap_model.specs.declared.deed.Author.{Author}
use Rattle.imap_model.specs.declared.deed.Author.TheVariants.{Other, Ours}
use Rattle.imap_model.specs.declared.deed.Change.{Change}
use Rattle.imap_model.specs.declared.deed.Deed.{Deed}
use Rattle.imap_model.specs.declared.server.Server.{Server}
use Rattle.mail_base.specs.Tags.{action_of}
use Rattle.mail_base.specs.declared.tag.Tag.{Tag}
use Rattle.book_laws.specs.Reached.{ActionReached, DeedReached, DeedsReached, HasReached, TargetReached}
use Rattle.playback.specs.Allowed.{IsToHave}
use Rattle.book_laws.specs.Kept.{KeptBook}
use Rattle.book_laws.specs.Once.{AllOwned, IsOne, IsOwned, IsPlace}
use Rattle.book_laws.specs.Open.{IsOpen}
use Rattle.book_laws.specs.Wanted.{IsWanted}
use Rattle.playback.specs.Why.{OfDue}
use Rattle.std.proofs.Common.{List, None, Option, Some, [], ap, arith, refl, subst, suc, sym, true, ℕ, ◌-◌, ◌∙◌, ◌∷◌, ◌≡◌}
use Rattle.std.proofs.lemmas.Bool.{cond_both, eqb-true}
use Rattle.std.proofs.lemmas.Option.{same_Some}
use Rattle.std.specs.Prelude.{slice_get}
use Rattle.action_queue.specs.declared.action.Action.TheVariants as actions
use Rattle.imap_model.specs.declared.deed.Change.TheVariants as changes
use Rattle.action_queue.specs.declared.found.Found.TheVariants as found
use Rattle.action_queue.specs.declared.intent.Intent.TheVariants as intents
use Rattle.action_queue.specs.declared.outcome.Outcome.TheVariants as outcomes
use Rattle.action_queue.specs.declared.target.Target.TheVariants as targets

-- a deed of an action goes to the action's mailbox
goes_moved : (queue : List Queued) (target : Target) (to name : List ℕ) (validity : ℕ) (change : Change) →
    IsWanted queue (actions.Move target to) name validity change → receiver name change ≡ to
goes_moved queue target to name validity (changes.Shift uid other received) wanted = wanted.1
goes_moved queue target to name validity (changes.Add flags text uid) wanted = absurd wanted
goes_moved queue target to name validity (changes.SetFlags uid flags) wanted = absurd wanted
goes_moved queue target to name validity (changes.Drop uid) wanted = absurd wanted
goes_moved queue target to name validity (changes.Reset under uids uidnext highest) wanted = absurd wanted

goes_appended : (queue : List Queued) (to : List ℕ) (flags : List (List ℕ)) (text id name : List ℕ) (validity : ℕ) (change : Change) →
    IsWanted queue (actions.Append to flags text id) name validity change → receiver name change ≡ to
goes_appended queue to flags text id name validity (changes.Add others content uid) wanted = wanted.0
goes_appended queue to flags text id name validity (changes.SetFlags uid others) wanted = absurd wanted
goes_appended queue to flags text id name validity (changes.Drop uid) wanted = absurd wanted
goes_appended queue to flags text id name validity (changes.Shift uid other received) wanted = absurd wanted
goes_appended queue to flags text id name validity (changes.Reset under uids uidnext highest) wanted = absurd wanted

-- a tag is of one action
number_is : (n : ℕ) (o : Option ℕ) → is_number n o ≡ true → o ≡ Some n
number_is n None is = absurd cc
number_is n (Some k) is = ap Some (eqb-true k n is)

same_try : (n k : ℕ) (tag : Tag) → is_try n tag ≡ true → is_try k tag ≡ true → n ≡ k
same_try n k tag first second = same_Some n k (sym (number_is n (action_of tag) first) ∙ number_is k (action_of tag) second)

place_of_one : (place : Option Place) (d : Deed) (ds : List Deed) → IsOne place (d ∷ ds) → IsPlace place d
place_of_one place d [] one = one
place_of_one place d (e ∷ ds) one = absurd one

real_name : (a b : List ℕ) (v w u x : ℕ) → found.Real a v u ≡ found.Real b w x → a ≡ b
real_name a b v w u x same = cc

real_validity : (a b : List ℕ) (v w u x : ℕ) → found.Real a v u ≡ found.Real b w x → v ≡ w
real_validity a b v w u x same = cc

module _ (b : Meaning) (s : Server) (waiting : Option Waiting) (kept : KeptBook b s waiting) where
  -- where the message of an action landed
  module _ (i : ℕ) (q : Queued) (there : slice_get b.queue i ≡ Some q) (to : List ℕ)
      (goes : (name : List ℕ) (validity : ℕ) (change : Change) → IsWanted b.queue q.action name validity change → receiver name change ≡ to)
      (place : Place) where
    of_deed : (d : Deed) (author : Author) → is_ours (suc i) author ≡ true → IsOwned b.queue d author → DeedReached s.boxes d author →
        IsPlace (Some place) d → HasReached to place.validity s.boxes
    of_deed d Other ours_it owned reached at = absurd cc
    of_deed d (Ours tag) ours_it owned reached at =
        let same : owned.place ≡ i = omega (arith, same_try (suc owned.place) (suc i) tag owned.tagged ours_it) in
        let is : owned.queued ≡ q =
        same_Some owned.queued q (sym owned.there ∙ ap (λ (k : ℕ). slice_get b.queue k) same ∙ there) in
        let wanted = subst (λ (x : Queued). IsWanted b.queue x.action d.name d.validity d.change) is owned.wanted in
        subst (λ (n : List ℕ). HasReached n place.validity s.boxes) (goes d.name d.validity d.change wanted)
        (subst (λ (v : ℕ). HasReached (receiver d.name d.change) v s.boxes) (sym at.0) reached)

    one_deed : (ds : List Deed) → AllOwned b.queue ds → DeedsReached s.boxes ds → IsOne (Some place) (ours (suc i) ds) →
        HasReached to place.validity s.boxes
    one_deed [] owned reached = λ one. absurd one
    one_deed (d ∷ ds) owned reached =
        cond_both (is_ours (suc i) d.author) (d ∷ ours (suc i) ds) (ours (suc i) ds)
        (λ (mine : List Deed). IsOne (Some place) mine → HasReached to place.validity s.boxes)
        (λ t one. of_deed d d.author t owned.0 reached.0 (place_of_one (Some place) d (ours (suc i) ds) one))
        (λ f one. one_deed ds owned.1 reached.1 one)

    place_reached : q.outcome ≡ Some (outcomes.Done (Some place)) → HasReached to place.validity s.boxes
    place_reached ended =
        one_deed s.history kept.once.owned kept.reached.deeds (kept.once.settled i q (outcomes.Done (Some place)) there ended)

  module _ (name : List ℕ) (validity uid n : ℕ) where
    by_outcome : (q : Queued) → slice_get b.queue (n - 1) ≡ Some q → (to : List ℕ) →
        ((at : List ℕ) (under : ℕ) (change : Change) → IsWanted b.queue q.action at under change → receiver at change ≡ to) →
        (o : Option Outcome) → q.outcome ≡ o → landed_in n to o ≡ found.Real name validity uid → HasReached name validity s.boxes
    by_outcome q there to goes None ended is = absurd cc
    by_outcome q there to goes (Some (outcomes.Conflict kind)) ended is = absurd cc
    by_outcome q there to goes (Some (outcomes.Done None)) ended is = absurd cc
    by_outcome q there to goes (Some (outcomes.Done (Some place))) ended is =
        subst (λ (v : ℕ). HasReached name v s.boxes) (real_validity to name place.validity validity place.uid uid is)
        (subst (λ (m : List ℕ). HasReached m place.validity s.boxes) (real_name to name place.validity validity place.uid uid is)
        (place_reached (n - 1) q there to goes place ended))

    by_action : (q : Queued) → slice_get b.queue (n - 1) ≡ Some q → (action : Action) → q.action ≡ action →
        landed n action q.outcome ≡ found.Real name validity uid → HasReached name validity s.boxes
    by_action q there (actions.Flag target add flags) does is = absurd cc
    by_action q there (actions.Move target to) does is =
        by_outcome q there to
        (λ at under change wanted. goes_moved b.queue target to at under change
        (subst (λ (a : Action). IsWanted b.queue a at under change) does wanted)) q.outcome refl is
    by_action q there (actions.Append to flags text id) does is =
        by_outcome q there to
        (λ at under change wanted. goes_appended b.queue to flags text id at under change
        (subst (λ (a : Action). IsWanted b.queue a at under change) does wanted)) q.outcome refl is

    by_entry : (o : Option Queued) → slice_get b.queue (n - 1) ≡ o → landed_queued n o ≡ found.Real name validity uid →
        HasReached name validity s.boxes
    by_entry None there is = absurd cc
    by_entry (Some q) there is = by_action q there q.action refl is

  -- the message that a target is
  module _ (name : List ℕ) (validity uid : ℕ) where
    target_under : (target : Target) → TargetReached s.boxes target → resolved b.queue target ≡ found.Real name validity uid →
        HasReached name validity s.boxes
    target_under (targets.Real at under number) reached is =
        subst (λ (v : ℕ). HasReached name v s.boxes) (real_validity at name under validity number uid is)
        (subst (λ (m : List ℕ). HasReached m under s.boxes) (real_name at name under validity number uid is) reached)
    target_under (targets.Dummy n) reached is = by_entry name validity uid n (slice_get b.queue (n - 1)) refl is

  -- the mailbox of a pending append
  module _ (q : Queued) (due_it : due_action b.queue ≡ Some q) (to : List ℕ) (flags : List (List ℕ)) (text id : List ℕ)
      (appends : q.action ≡ actions.Append to flags text id) (other : List ℕ) (validity uidnext : ℕ)
      (pending : b.pending ≡ Some (intents.Put other validity uidnext)) where
    same_box : other ≡ to
    same_box =
        let intent = kept.sound.intent (intents.Put other validity uidnext) pending in
        let is : intent.queued ≡ q = same_Some intent.queued q (sym intent.there ∙ due_it) in
        same_name other to
        (subst (λ (a : Action). suits b.queue a (intents.Put other validity uidnext) ≡ true) (ap (λ (x : Queued). x.action) is ∙ appends) intent.suits_it)

    put_under : HasReached to validity s.boxes
    put_under =
        let open_put : IsOpen q.action (ours (suc (due b.queue)) s.history) (intents.Put other validity uidnext) s.boxes =
        kept.open_intent (intents.Put other validity uidnext) pending q due_it in
        record {
          box = open_put.box;
          there = subst (λ (n : List ℕ). box_at n s.boxes ≡ Some open_put.box) same_box open_put.there;
          not_below = open_put.not_below;
          facts = λ _. tt;
        }

  by_due : (q : Queued) → due_action b.queue ≡ Some q → (action : Action) → q.action ≡ action → ActionReached s.boxes action → (name : List ℕ)
      (validity : ℕ) → IsToHave name validity b action → HasReached name validity s.boxes
  by_due q due_it (actions.Flag target add flags) does reached name validity has = target_under name validity has.0 target reached has.1
  by_due q due_it (actions.Move target to) does reached name validity has = target_under name validity has.0 target reached has.1
  by_due q due_it (actions.Append to flags text id) does reached name validity has =
      subst (λ (n : List ℕ). HasReached n validity s.boxes) (sym has.2)
      (put_under q due_it to flags text id does has.1 validity has.0 has.3)

  pub to_have_reached : (name : List ℕ) (validity : ℕ) → OfDue (IsToHave name validity b) b → HasReached name validity s.boxes
  to_have_reached name validity o =
      by_due o.queued o.there o.queued.action refl
      (kept.reached.waiting (due b.queue) o.queued o.there (kept.sound.rest (due b.queue) o.queued o.there (omega arith))) name validity o.holds
