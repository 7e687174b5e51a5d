-- A server that is well formed stays so while questions are asked, and what others keep of it is kept.
use Rattle.std.proofs.Common.{◌≡◌, ℕ, List, [], ◌∷◌, None, Option, Some, refl, sym, ◌∙◌, subst}
use Rattle.std.proofs.lemmas.Option.{same_Some}
use Rattle.imap_model.specs.Changes.{Batch}
use Rattle.imap_model.specs.Talking.{Peer, Answering, Connecting}
use Rattle.imap_model.specs.Talking.Answering.{stays, others, goes_on, refuses, carries}
use Rattle.imap_model.specs.Talking.Connecting.{as_before, begins, ends}
use Rattle.imap_model.specs.Lookups.{box_at, validity_of}
use Rattle.imap_model.specs.WellFormed.{IsWellFormed}
use Rattle.imap_model.specs.declared.server.Mailbox.{Mailbox}
use Rattle.imap_model.specs.declared.server.Server.{Server}
use Rattle.imap_model.proofs.Evolution.{batches_stay}
use Rattle.world_traits.specs.Asking.Asking.{answers, arrives}
use Rattle.world_traits.specs.Links.{Any, LinkStep, Linked}
use Rattle.world_traits.specs.Moments.{Moment, Clock, Since}
use Rattle.world_traits.proofs.Passing.{since_weaker}
use Rattle.world_traits.proofs.Traces.{since_both, since_carry, carried_now}
use Rattle.imap_session.specs.Enquiring.{Enquiring, connecting, asking}
use Rattle.play_driver.specs.Calm.{IsCalm, NoChangeWaits}
use Rattle.play_driver.specs.Levelling.{LeavesSelected, LeavesValidity, SameValidity, SelectedStays, ValidityStays}
use Rattle.book_laws.specs.Polite.{KeepsBox, has_validity}
use Rattle.play_driver.proofs.QuestionsStay.{question_stays}

-- others change something as is said
record LeavesBy (R : Server → Server → Type 0) (m n : Moment) : Type 0 where
  pub same : Batch m.outside.server.boxes m.outside.server n.outside.server → R m.outside.server n.outside.server

module _ (R : Server → Server → Type 0) (P : Server → Type 0)
    (stands : (s t : Server) → IsWellFormed s.boxes → Batch s.boxes s t → R s t → P s → P t) where
  abbrev Held : Peer → Type 0
  Held p = IsCalm p × P p.server

  abbrev Spared : Peer → Peer → Type 0
  Spared p q = Batch p.server.boxes p.server q.server → R p.server q.server

  -- whatever is asked
  answering_held : (p q : Peer) → Answering p q → Spared p q → Held p → Held q
  answering_held p q stays fair h = h
  answering_held p q (others t batch) fair h = (
    record { well = (batches_stay p.server t h.0.well batch).0; no_change = h.0.no_change },
    stands p.server t h.0.well batch (fair batch) h.1,
  )
  answering_held p q (goes_on a is unasked) fair h = (record { well = h.0.well; no_change = h.0.no_change }, h.1)
  answering_held p q (refuses a r is unasked refusal) fair h = (record { well = h.0.well; no_change = h.0.no_change }, h.1)
  answering_held p q (carries w r t after is out) fair h =
      let same : t ≡ p.server = question_stays w p.server r t after (subst NoChangeWaits is h.0.no_change) out in
      (record { well = subst (λ (s : Server). IsWellFormed s.boxes) (sym same) h.0.well; no_change = tt }, subst P (sym same) h.1)

  connecting_held : (p q : Peer) → Connecting p q → Spared p q → Held p → Held q
  connecting_held p q (as_before step) fair h = answering_held p q step fair h
  connecting_held p q ends fair h = (record { well = h.0.well; no_change = h.0.no_change }, h.1)
  connecting_held p q (begins greeting is) fair h = (record { well = h.0.well; no_change = tt }, h.1)

  enquiring_held : (p q : Peer) → Enquiring p q → Spared p q → Held p → Held q
  enquiring_held p q (connecting step) fair h = connecting_held p q step fair h
  enquiring_held p q (asking told tag command question (answers step)) fair h = answering_held p q step fair h
  enquiring_held p q (asking told tag command question (arrives before part [] is awaits front)) fair h =
      (record { well = h.0.well; no_change = question }, h.1)
  enquiring_held p q (asking told tag command question (arrives before part (next ∷ behind) is awaits front)) fair h =
      (record { well = h.0.well; no_change = h.0.no_change }, h.1)

  abbrev Fairly : Moment → Moment → Type 0
  Fairly m n = LinkStep Enquiring m n × LeavesBy R m n

  held_on : (m n : Moment) → Any n × Any n → Fairly m n → Held m.outside → Held n.outside
  held_on m n any s h = enquiring_held m.outside n.outside s.0.outside s.1.same h

  -- over a time
  held_by : (old new : Clock) → Linked Enquiring old new → Since Any (LeavesBy R) old new → Held old.now.outside → Held new.now.outside
  held_by old new linked fair h =
      carried_now (λ m. Any m × Any m) (λ m. Held m.outside) Fairly held_on old h new
      (since_both Any Any (LinkStep Enquiring) (LeavesBy R) old new linked fair)

-- where others may do what they like
freely : (m n : Moment) → LinkStep Enquiring m n → LeavesBy (λ s t. Unit {0}) m n
freely m n step = record { same = λ batch. tt }

pub held_freely : (P : Server → Type 0) → ((s t : Server) → IsWellFormed s.boxes → Batch s.boxes s t → P s → P t) → (old new : Clock) →
    Linked Enquiring old new → IsCalm old.now.outside × P old.now.outside.server → IsCalm new.now.outside × P new.now.outside.server
held_freely P stands old new linked h =
    held_by (λ s t. Unit {0}) P (λ s t well batch u p. stands s t well batch p) old new linked
    (since_weaker Any Any (LinkStep Enquiring) (LeavesBy (λ s t. Unit {0})) (λ m p. p) freely old new linked) h

pub calm_now : (old new : Clock) → Linked Enquiring old new → IsCalm old.now.outside → IsCalm new.now.outside
calm_now old new linked calm = (held_freely (λ s. Unit {0}) (λ s t well batch u. tt) old new linked (calm, tt)).0

module _ (name : List ℕ) where
  by_validity : (m n : Moment) → LeavesValidity name m n → LeavesBy (SameValidity name) m n
  by_validity m n leaves = record { same = leaves.same }

  -- where they leave the UIDVALIDITY
  pub held_now : (P : Server → Type 0) → ((s t : Server) → IsWellFormed s.boxes → Batch s.boxes s t → SameValidity name s t → P s → P t) →
      (old new : Clock) → Linked Enquiring old new → ValidityStays name old new → IsCalm old.now.outside × P old.now.outside.server →
      IsCalm new.now.outside × P new.now.outside.server
  held_now P stands old new linked fair h =
      held_by (SameValidity name) P stands old new linked
      (since_weaker Any Any (LeavesValidity name) (LeavesBy (SameValidity name)) (λ m p. p) by_validity old new fair) h

-- From one moment to the next what is selected stays.
abbrev pub SameSelected : Moment → Moment → Type 0
SameSelected m n = n.outside.talk.selected ≡ m.outside.talk.selected

same_validity : (x y : Option Mailbox) → has_validity x ≡ has_validity y → validity_of x ≡ validity_of y
same_validity None None same = refl
same_validity None (Some y) same = absurd cc
same_validity (Some x) None same = absurd cc
same_validity (Some x) (Some y) same = same_Some x.validity y.validity same

-- While a mailbox is selected others leave its UIDVALIDITY.
module _ (name : List ℕ) (at new : Clock) (chosen : Since Any SameSelected at new) (there : new.now.outside.talk.selected ≡ Some name)
    (fair : SelectedStays at new) where
  abbrev Chosen : Moment → Type 0
  Chosen m = m.outside.talk.selected ≡ Some name

  at_first : Chosen at.now
  at_first =
      sym (carried_now Any (λ m. m.outside.talk.selected ≡ at.now.outside.talk.selected) SameSelected (λ m n any s before. s ∙ before) at refl new chosen)
      ∙ there

  abbrev Both : Moment → Moment → Type 0
  Both m n = SameSelected m n × LeavesSelected m n

  leaves : (m n : Moment) → Chosen m × Both m n → LeavesValidity name m n
  leaves m n s = record {
    same = λ batch. same_validity (box_at name n.outside.server.boxes) (box_at name m.outside.server.boxes)
        (subst (λ (o : Option (List ℕ)). KeepsBox o m.outside.server.boxes n.outside.server.boxes) s.0 (s.1.1.same batch));
  }

  pub stays_selected : ValidityStays name at new
  stays_selected =
      since_weaker (λ m. (Any m × Any m) × Chosen m) Any (λ m n. Chosen m × Both m n) (LeavesValidity name) (λ m p. tt) leaves at new
      (since_carry (λ m. Any m × Any m) Chosen Both (λ m n any s here. s.0 ∙ here) at at_first new
      (since_both Any Any SameSelected LeavesSelected at new chosen fair))
