-- What is recorded with its reason ends surely.
use Rattle.action_queue.specs.Book.{Meaning, after}
use Rattle.action_queue.specs.Queues.{change_first, change_queued, due, settled, settled_then, tried, tries_due}
use Rattle.action_queue.specs.declared.event.Event.{Event}
use Rattle.action_queue.specs.declared.event.Event.TheVariants as events
use Rattle.action_queue.specs.declared.outcome.Kind.{Kind}
use Rattle.action_queue.specs.declared.outcome.Kind.TheVariants as kinds
use Rattle.action_queue.specs.declared.outcome.Outcome.{Outcome}
use Rattle.action_queue.specs.declared.outcome.Outcome.TheVariants as outcomes
use Rattle.action_queue.specs.declared.queued.Queued.{Queued}
use Rattle.play_driver.specs.Progress.{IsPlayEvent}
use Rattle.play_driver.specs.Surely.{EndSurely}
use Rattle.play_driver.specs.TrueRecords.{IsTrueSince, RecordsTruly, StopsTruly}
use Rattle.play_driver.specs.TrueRecords.IsTrueSince.{enters, records, rests}
use Rattle.play_driver.specs.declared.fault.PlayFault.{PlayFault}
use Rattle.play_driver.specs.declared.fault.PlayFault.TheVariants as faults
use Rattle.playback.specs.Course.{Course}
use Rattle.book_laws.specs.Once.{is_unsure}
use Rattle.playback.specs.Why.{WhyEvent, WhyKind, WhyOutcome, is_open}
use Rattle.std.proofs.Common.{Bool, Err, IsErrOf, List, None, Ok, Option, Result, Some, ap, inl, inr, refl, subst, suc, sym, true, zero, ℕ, ◌∙◌, ◌∷◌, [], ◌≡◌, ◌⊎◌}
use Rattle.std.proofs.lemmas.Bool.{and_parts, eqb-true}
use Rattle.std.proofs.lemmas.Option.{same_Some}
use Rattle.std.specs.Prelude.{is_some, slice_get, ◌&&◌, ◌==◌}
use Rattle.world_traits.specs.Moments.{Clock}

-- an element of a queue in which the first unsettled one was changed: it was there, or it is the changed one
module _ (f : Queued → Queued) where
  abbrev pub Stood : ℕ → List Queued → ℕ → Queued → Type 0
  Stood place qs i x = (slice_get qs i ≡ Some x) ⊎ ((i ≡ place) × ((old : Queued) × (f old ≡ x)))

  stood_behind : (q : Queued) (qs : List Queued) (i : ℕ) (x : Queued) → Stood (due qs) qs i x → Stood (suc (due qs)) (q ∷ qs) (suc i) x
  stood_behind q qs i x (inl there) = inl there
  stood_behind q qs i x (inr (at, (old, is))) = inr (ap suc at, (old, is))

  changed_then : (q : Queued) (qs changed : List Queued) →
      ((i : ℕ) (x : Queued) → slice_get changed i ≡ Some x → Stood (due qs) qs i x) → (o : Option Outcome) (i : ℕ) (x : Queued) →
      slice_get (change_queued f q qs changed o) i ≡ Some x → Stood (settled_then o (due qs)) (q ∷ qs) i x
  changed_then q qs changed stood None zero x there = inr (refl, (q, same_Some (f q) x there))
  changed_then q qs changed stood None (suc i) x there = inl there
  changed_then q qs changed stood (Some old) zero x there = inl there
  changed_then q qs changed stood (Some old) (suc i) x there = stood_behind q qs i x (stood i x there)

  pub changed_at : (qs : List Queued) (i : ℕ) (x : Queued) → slice_get (change_first f qs) i ≡ Some x → Stood (due qs) qs i x
  changed_at [] i x there = inl there
  changed_at (q ∷ qs) i x there = changed_then q qs (change_first f qs) (changed_at qs) q.outcome i x there

-- a kind is unsure only where its intent was pending as the run began
open_then : (kind : Kind) (resumed : Bool) (b : Meaning) (c : Course) → is_unsure kind ≡ true → WhyKind kind resumed b c → resumed ≡ true
open_then kinds.MessageGone resumed b c unsure why = absurd cc
open_then kinds.AlreadySo resumed b c unsure why = absurd cc
open_then (kinds.FlagsChanged m) resumed b c unsure why = absurd cc
open_then kinds.RefusedNo resumed b c unsure why = absurd cc
open_then kinds.RefusedBad resumed b c unsure why = absurd cc
open_then kinds.NotPermanent resumed b c unsure why = absurd cc
open_then (kinds.TargetUnknown k) resumed b c unsure why = absurd cc
open_then kinds.FoundSo resumed b c unsure why = why.0.open_then
open_then (kinds.StoreUnsure m f) resumed b c unsure why = why.0.open_then
open_then kinds.SourceGone resumed b c unsure why = why.0.open_then
open_then kinds.GoneAfterLoss resumed b c unsure why = why.0.open_then
open_then (kinds.Ambiguous u v) resumed b c unsure why = why.0.open_then
open_then (kinds.ValidityChanged o n) resumed b c unsure why = absurd cc
open_then (kinds.ResetAfterLoss o n) resumed b c unsure why = why.0.open_then

was_due : (entry b : Meaning) → is_open entry b ≡ true → (due b.queue ≡ due entry.queue) × (is_some entry.pending ≡ true)
was_due entry b opens =
    let parts = and_parts (is_some entry.pending) ((due entry.queue == due b.queue) && (tries_due entry.queue == tries_due b.queue)) opens in
    let both = and_parts (due entry.queue == due b.queue) (tries_due entry.queue == tries_due b.queue) parts.1 in
    (sym (eqb-true (due entry.queue) (due b.queue) both.0), parts.0)

-- the action that is due is settled
module _ (entry b : Meaning) (c : Course) (n : ℕ) (outcome : Outcome) (sure : EndSurely entry b) (why : WhyOutcome outcome (is_open entry b) b c)
    (i : ℕ) (q : Queued) (kind : Kind) (is : q.outcome ≡ Some (outcomes.Conflict kind)) (unsure : is_unsure kind ≡ true) where
  settled_surely : Stood (settled outcome) (due b.queue) b.queue i q → (slice_get entry.queue i ≡ Some q) ⊎ ((i ≡ due entry.queue)
      × (is_some entry.pending ≡ true))
  settled_surely (inl there) = sure i q kind there is unsure
  settled_surely (inr (at, (old, changed))) =
      let same : outcome ≡ outcomes.Conflict kind =
      same_Some outcome (outcomes.Conflict kind) (ap (λ (x : Queued). x.outcome) changed ∙ is) in
      let opens =
      was_due entry b
      (open_then kind (is_open entry b) b c unsure (subst (λ (o : Outcome). WhyOutcome o (is_open entry b) b c) same why)) in
      inr (at ∙ opens.0, opens.1)

-- an action that ended stays as it was where a try of another is taken back
ended_then : (tries : ℕ) (q : Queued) (qs : List Queued) (o : Option Outcome) → q.outcome ≡ o → (i : ℕ) (x : Queued) →
    slice_get (change_queued (tried tries) q qs (change_first (tried tries) qs) o) i ≡ Some x → (out : Outcome) → x.outcome ≡ Some out →
    ((j : ℕ) (y : Queued) → slice_get (change_first (tried tries) qs) j ≡ Some y → y.outcome ≡ Some out → slice_get qs j ≡ Some y) →
    slice_get (q ∷ qs) i ≡ Some x
ended_then tries q qs None e zero x there out is later =
    let none : None ≡ Some out = sym e ∙ ap (λ (y : Queued). y.outcome) (same_Some (tried tries q) x there) ∙ is in absurd cc
ended_then tries q qs None e (suc i) x there out is later = there
ended_then tries q qs (Some old) e zero x there out is later = there
ended_then tries q qs (Some old) e (suc i) x there out is later = later i x there is

pub ended_there : (tries : ℕ) (queue : List Queued) (i : ℕ) (x : Queued) → slice_get (change_first (tried tries) queue) i ≡ Some x → (out : Outcome) →
    x.outcome ≡ Some out → slice_get queue i ≡ Some x
ended_there tries [] i x there out is = there
ended_there tries (q ∷ qs) i x there out is =
    ended_then tries q qs q.outcome refl i x there out is (λ j y here ended. ended_there tries qs j y here out ended)

event_surely : (entry b : Meaning) (c : Course) (event : Event) → EndSurely entry b → IsPlayEvent event → WhyEvent event entry b c →
    EndSurely entry (after b event)
event_surely entry b c (events.Begin names) sure of_play why = absurd of_play
event_surely entry b c (events.Accept id action) sure of_play why = absurd of_play
event_surely entry b c (events.Intend id intent) sure of_play why = sure
event_surely entry b c (events.Settle id outcome) sure of_play why = λ i q kind there is unsure.
    settled_surely entry b c id outcome sure why i q kind is unsure (changed_at (settled outcome) b.queue i q there)
event_surely entry b c (events.Learn name delta) sure of_play why = sure
event_surely entry b c (events.Old id action outcome) sure of_play why = absurd of_play
event_surely entry b c (events.Reset name kept told) sure of_play why = sure
event_surely entry b c (events.Withdraw id tries) sure of_play why = λ i q kind there is unsure.
    sure i q kind (ended_there tries b.queue i q there (outcomes.Conflict kind) is) is unsure

pub true_surely : (entry : Meaning) (made now : Clock) (b : Meaning) → IsTrueSince entry made now b → EndSurely entry b
true_surely entry made now b enters = λ i q kind there is unsure. inl there
true_surely entry made now b (rests at later same truly still) = true_surely entry made at b truly
true_surely entry made now b (records at later before event truly reason takes) =
    event_surely entry before reason.course event (true_surely entry made at before truly) reason.of_play reason.why

-- whether the disk failed or not
by_disk : {T : Type 0} (r : Result T PlayFault) (P : Type 0) → (IsErrOf r faults.Disk → P) → ((IsErrOf r faults.Disk → ⊥) → P) → P
by_disk (Ok x) P failed other = other (λ is. absurd cc)
by_disk (Err faults.Memory) P failed other = other (λ is. absurd cc)
by_disk (Err faults.Disk) P failed other = failed refl
by_disk (Err faults.Link) P failed other = other (λ is. absurd cc)
by_disk (Err (faults.Refused line)) P failed other = other (λ is. absurd cc)
by_disk (Err (faults.BadReply why)) P failed other = other (λ is. absurd cc)
by_disk (Err (faults.Lacking item)) P failed other = other (λ is. absurd cc)
by_disk (Err (faults.Limit which number)) P failed other = other (λ is. absurd cc)

pub run_surely : {T : Type 0} (r : Result T PlayFault) (b c : Meaning) (old new : Clock) → (IsErrOf r faults.Disk → StopsTruly b c old new) →
    ((IsErrOf r faults.Disk → ⊥) → RecordsTruly b c old new) → EndSurely b c
run_surely r b c old new stopped truly =
    by_disk r (EndSurely b c) (λ is. let s = stopped is in true_surely b s.made s.truly.at c s.truly.so_far)
    (λ other. let s = truly other in true_surely b s.made new c s.truly)
