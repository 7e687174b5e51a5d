-- A run is short: for each action and each mailbox it selects one mailbox at most.
use Rattle.action_queue.specs.Book.{Meaning, after, cache_at}
use Rattle.action_queue.specs.Queues.{change_first, change_queued, due, due_action, settled, settled_then, tried, tries_due, tries_of}
use Rattle.action_queue.specs.declared.action.Action.{Action}
use Rattle.action_queue.specs.declared.book.Known.{Known}
use Rattle.action_queue.specs.declared.event.Event.{Event}
use Rattle.action_queue.specs.declared.intent.Intent.{Intent}
use Rattle.action_queue.specs.declared.outcome.Kind.{Kind}
use Rattle.action_queue.specs.declared.outcome.Outcome.{Outcome}
use Rattle.action_queue.specs.declared.queued.Queued.{Queued}
use Rattle.imap_model.specs.declared.command.Command.{Command}
use Rattle.mail_base.specs.declared.tag.Tag.{Tag}
use Rattle.playback.specs.declared.step.Step.{Step}
use Rattle.play_driver.specs.Running.RunsTo.{rests, turns}
use Rattle.play_driver.specs.Turning.Turns.{asks, fetches, holds, records, resets, selects}
use Rattle.std.proofs.Common.{arith, inl, inr}
use Rattle.playback.proofs.Ranks.{at_most}
use Rattle.playback.proofs.Recording.{put_length}
use Rattle.playback.proofs.Resetting.{reset_told}
use Rattle.play_driver.proofs.GatheredTaken.{chosen_keeps, selects_none}
use Rattle.play_driver.proofs.TurnsFall.{left_less, left_no_more}
use Rattle.play_driver.specs.Running.{IsShort, RunsBetween, StaysShort, held_of, learns_for, opens, pending_in, rest_of, selects_at, selects_by, selects_for, turns_left_at}
use Rattle.play_driver.specs.declared.session.Held.{Held}
use Rattle.store_core.specs.Holding.{Holding}
use Rattle.store_core.specs.Mail.{mail}
use Rattle.play_driver.specs.Recording.{recorded}
use Rattle.play_driver.specs.Turning.{IsAskedFor, Standing, Turns, need_at, tries_at}
use Rattle.playback.specs.Allowed.{Records}
use Rattle.playback.specs.Choosing.{begun_with, committed, counted}
use Rattle.playback.specs.Left.{left, rank, rank_behind, rank_of, unsettled}
use Rattle.playback.specs.Needs.{again, again_as, due_id, need_end, need_for, need_ids, need_learn, need_of, need_search, need_send, search_of, send_meant, send_of}
use Rattle.playback.specs.Steps.{step_action, step_box, step_due, step_learn, step_of}
use Rattle.playback.specs.declared.finding.Finding.{Finding}
use Rattle.playback.specs.declared.finding.Resynced.{Resynced}
use Rattle.playback.specs.declared.need.Need.{Need}
use Rattle.playback.specs.declared.player.Player.{Player}
use Rattle.std.proofs.Common.{Bool, List, None, Ok, Option, Some, [], ap, cond, false, get_or, length, refl, subst, suc, sym, true, ℕ, ◌+◌, ◌-◌, ◌*◌, ◌<◌, ◌∙◌, ◌∷◌, ◌≡◌, ◌≤◌, ◌⊎◌}
use Rattle.std.proofs.lemmas.Bool.{cond-false, cond-true, le-ltb, lt-ltb, ltb-false, ltb-true}
use Rattle.std.proofs.lemmas.Option.{same_Some, slice_get_cases}
use Rattle.std.specs.Prelude.{nat_lt, slice_get}
use Rattle.std.specs.declared.alloc.Global.{Global}
use Rattle.action_queue.specs.declared.action.Action.TheVariants as actions
use Rattle.playback.specs.declared.finding.Finding.TheVariants as findings
use Rattle.action_queue.specs.declared.event.Event.TheVariants as events
use Rattle.action_queue.specs.declared.intent.Intent.TheVariants as intents
use Rattle.action_queue.specs.declared.outcome.Kind.TheVariants as kinds
use Rattle.action_queue.specs.declared.outcome.Outcome.TheVariants as outcomes
use Rattle.playback.specs.declared.need.Need.TheVariants as needs
use Rattle.playback.specs.declared.step.Step.TheVariants as steps

-- a place that has something is within
place_within : {X : Type 0} (xs : List X) (i : ℕ) (x : X) → slice_get xs i ≡ Some x →
    ((y : X) × (i < length xs) × (slice_get xs i ≡ Some y) × (get_or xs i y ≡ y)) ⊎ ((length xs ≤ i) × (slice_get xs i ≡ None)) → i < length xs
place_within xs i x e (inl h) = h.1
place_within xs i x e (inr h) = let k : Some x ≡ None = sym e ∙ h.1 in absurd (cc)

pub place_before : {X : Type 0} (xs : List X) (i : ℕ) (x : X) → slice_get xs i ≡ Some x → i < length xs
place_before xs i x e = place_within xs i x e (slice_get_cases xs i).1

pending_most : (o : Option Resynced) → pending_in o ≤ 1
pending_most None = omega arith
pending_most (Some told) = omega arith

-- what is needed for each step
learn_selects : (o : Option Resynced) → selects_for (need_learn o) ≡ 0
learn_selects None = refl
learn_selects (Some told) = refl

search_one : (uidnext : ℕ) (action : Action) → (selects_for (search_of uidnext action) ≡ 0) × (learns_for (search_of uidnext action) ≡ 0)
search_one uidnext (actions.Flag target add flags) = (refl, refl)
search_one uidnext (actions.Move target to) = (refl, refl)
search_one uidnext (actions.Append to flags text id) = (refl, refl)

search_both : (uidnext : ℕ) (o : Option Queued) → (selects_for (need_search uidnext o) ≡ 0) × (learns_for (need_search uidnext o) ≡ 0)
search_both uidnext None = (refl, refl)
search_both uidnext (Some q) = search_one uidnext q.action

ids_both : (told : Finding) → (selects_for (need_ids told) ≡ 0) × (learns_for (need_ids told) ≡ 0)
ids_both findings.Nothing = (refl, refl)
ids_both findings.NoRow = (refl, refl)
ids_both (findings.Row modseq so) = (refl, refl)
ids_both findings.Barred = (refl, refl)
ids_both (findings.Ended outcome) = (refl, refl)
ids_both (findings.Next validity uidnext) = (refl, refl)
ids_both (findings.Candidates uids) = (refl, refl)
ids_both (findings.Probed verdict) = (refl, refl)

send_one : (n : ℕ) (action : Action) (intent : Intent) → (selects_for (send_of n action intent) ≡ 0) × (learns_for (send_of n action intent) ≡ 0)
send_one n (actions.Flag target add flags) (intents.Store name validity uid modseq) = (refl, refl)
send_one n (actions.Flag target add flags) (intents.Shift from validity uid to) = (refl, refl)
send_one n (actions.Flag target add flags) (intents.Put to validity uidnext) = (refl, refl)
send_one n (actions.Move target other) (intents.Store name validity uid modseq) = (refl, refl)
send_one n (actions.Move target other) (intents.Shift from validity uid to) = (refl, refl)
send_one n (actions.Move target other) (intents.Put to validity uidnext) = (refl, refl)
send_one n (actions.Append other flags text id) (intents.Store name validity uid modseq) = (refl, refl)
send_one n (actions.Append other flags text id) (intents.Shift from validity uid to) = (refl, refl)
send_one n (actions.Append other flags text id) (intents.Put to validity uidnext) = (refl, refl)

end_both : (n : ℕ) (outcome : Outcome) (o : Option ℕ) → (selects_for (need_end n outcome o) ≡ 0) × (learns_for (need_end n outcome o) ≡ 0)
end_both n outcome None = (refl, refl)
end_both n outcome (Some tries) = (refl, refl)

meant_both : (n : ℕ) (action : Action) (pending : Option Intent) →
    (selects_for (send_meant n action pending) ≡ 0) × (learns_for (send_meant n action pending) ≡ 0)
meant_both n action None = (refl, refl)
meant_both n action (Some intent) = send_one n action intent

send_both : (n : ℕ) (o : Option Queued) (pending : Option Intent) →
    (selects_for (need_send n o pending) ≡ 0) × (learns_for (need_send n o pending) ≡ 0)
send_both n None pending = (refl, refl)
send_both n (Some q) pending = meant_both n q.action pending

module _ (p : Player) (b : Meaning) where
  -- a mailbox is selected by the step of that rank alone
  selects_or : (step : Step) →
      (selects_for (need_for step p b) ≡ 0) ⊎ ((rank step ≡ 7) × (selects_for (need_for step p b) ≡ 1))
  selects_or steps.Learn = inl (learn_selects p.learns)
  selects_or (steps.Select name under) = inr (refl, refl)
  selects_or (steps.AskRow uid) = inl refl
  selects_or (steps.Search uidnext) = inl (search_both uidnext (due_action b.queue)).0
  selects_or steps.AskIds = inl (ids_both p.told).0
  selects_or (steps.Intend intent) = inl refl
  selects_or (steps.Settle outcome) = inl (end_both (due_id b) outcome (again (tries_due b.queue) outcome)).0
  selects_or steps.Send = inl (send_both (due_id b) (due_action b.queue) b.pending).0
  selects_or steps.Finished = inl refl

  -- a delta is recorded by its step alone
  learns_none : p.learns ≡ None → (step : Step) → learns_for (need_for step p b) ≡ 0
  learns_none e steps.Learn = ap (λ (o : Option Resynced). learns_for (need_learn o)) e
  learns_none e (steps.Select name under) = refl
  learns_none e (steps.AskRow uid) = refl
  learns_none e (steps.Search uidnext) = (search_both uidnext (due_action b.queue)).1
  learns_none e steps.AskIds = (ids_both p.told).1
  learns_none e (steps.Intend intent) = refl
  learns_none e (steps.Settle outcome) = (end_both (due_id b) outcome (again (tries_due b.queue) outcome)).1
  learns_none e steps.Send = (send_both (due_id b) (due_action b.queue) b.pending).1
  learns_none e steps.Finished = refl

  learns_by_told : (o : Option Resynced) → p.learns ≡ o → learns_for (need_for (step_learn p b o) p b) ≤ pending_in o
  learns_by_told None e = let h = learns_none e (step_due p b (due_action b.queue)) in omega (arith, h)
  learns_by_told (Some told) e =
      let h : learns_for (need_learn p.learns) ≡ 1 = ap (λ (o : Option Resynced). learns_for (need_learn o)) e in omega (arith, h)

  pub learns_few : learns_for (need_of p b) ≤ pending_in p.learns
  learns_few = learns_by_told p.learns refl

  abbrev Rest : ℕ
  Rest = rest_of p b

  box_rests : (o : Option Known) → slice_get b.boxes p.resynced ≡ o → selects_for (need_for (step_box o) p b) ≤ Rest
  box_rests None e = omega arith
  box_rests (Some known) e = omega (arith, place_before b.boxes p.resynced known e)

  select_most : (step : Step) → selects_for (need_for step p b) ≤ 1
  select_most step = by (selects_or step) where
    by : (selects_for (need_for step p b) ≡ 0) ⊎ ((rank step ≡ 7) × (selects_for (need_for step p b) ≡ 1)) → selects_for (need_for step p b) ≤ 1
    by (inl h) = omega (arith, h)
    by (inr h) = omega (arith, h.1)

  due_rests : (o : Option Queued) → due_action b.queue ≡ o → selects_for (need_for (step_due p b o) p b) ≤ Rest
  due_rests None e = box_rests (slice_get b.boxes p.resynced) refl
  due_rests (Some q) e = omega (arith, place_before b.queue (due b.queue) q e, select_most (step_action p b q.action))

  -- a SELECT is needed of this rank, where something is left; or none is needed
  abbrev SelectsOne : ℕ → Need → Type 0
  SelectsOne ranked need = (selects_for need ≡ 0) ⊎ ((ranked ≡ 7) × (selects_for need ≡ 1) × (1 ≤ Rest))

  with_rest : (step : Step) → selects_for (need_for step p b) ≤ Rest →
      (selects_for (need_for step p b) ≡ 0) ⊎ ((rank step ≡ 7) × (selects_for (need_for step p b) ≡ 1)) → SelectsOne (rank step) (need_for step p b)
  with_rest step few (inl h) = inl h
  with_rest step few (inr h) = inr (h.0, h.1, omega (arith, few, h.1))

  selects_by_told : (o : Option Resynced) → p.learns ≡ o → SelectsOne (rank_of p b o) (need_for (step_learn p b o) p b)
  selects_by_told None e =
      subst (λ (ranked : ℕ). SelectsOne ranked (need_for (step_due p b (due_action b.queue)) p b))
      (ap (λ (o : Option Resynced). rank (step_learn p b o)) (sym e))
      (with_rest (step_due p b (due_action b.queue)) (due_rests (due_action b.queue) refl) (selects_or (step_due p b (due_action b.queue))))
  selects_by_told (Some told) e = inl (learn_selects p.learns)

  pub selects_one : SelectsOne (rank_of p b p.learns) (need_of p b)
  selects_one = selects_by_told p.learns refl

-- ---- how far the step that is due is from the end

opens_by : (test : Bool) → cond test 1 0 ≤ 1
opens_by true = omega arith
opens_by false = omega arith

opens_most : (ranked : ℕ) → opens ranked ≤ 1
opens_most ranked = opens_by (nat_lt 6 ranked)

opens_none : (ranked : ℕ) → ranked ≤ 6 → opens ranked ≡ 0
opens_none ranked low = cond-false (nat_lt 6 ranked) 1 0 (le-ltb 6 ranked low)

opens_one : (ranked : ℕ) → 6 < ranked → opens ranked ≡ 1
opens_one ranked high = cond-true (nat_lt 6 ranked) 1 0 (lt-ltb 6 ranked high)

opens_less : (low high : ℕ) → low ≤ high → opens low ≤ opens high
opens_less low high less = by (nat_lt 6 low) refl
  where
    by : (test : Bool) → nat_lt 6 low ≡ test → opens low ≤ opens high
    by true e = let h = ltb-true 6 low e in let one = opens_one high (omega (arith, h, less)) in omega (arith, one, opens_most low)
    by false e = let none = opens_none low (ltb-false 6 low e) in omega (arith, none)

behind_most : (p : Player) (b : Meaning) (o : Option Queued) → rank_behind p b o ≤ 8
behind_most p b None = omega arith
behind_most p b (Some q) = omega (arith, at_most (step_action p b q.action))

rank_most : (p : Player) (b : Meaning) (o : Option Resynced) → rank_of p b o ≤ 8
rank_most p b None = omega (arith, at_most (step_of p b))
rank_most p b (Some told) = behind_most p b (due_action b.queue)

-- ---- the tries of the action that is due, behind a record

set_by : (k : ℕ) (x : Queued) (xs : List Queued) (o : Option Outcome) → x.outcome ≡ o → (q : Queued) →
    slice_get (x ∷ xs) (settled_then o (due xs)) ≡ Some q →
    ((y : Queued) → due_action xs ≡ Some y → tries_due (change_first (tried k) xs) ≡ k) →
    tries_due (change_queued (tried k) x xs (change_first (tried k) xs) o) ≡ k
set_by k x xs None e q there later = ap (λ (p : Option Outcome). tries_of (slice_get (tried k x ∷ xs) (settled_then p (due xs)))) e
set_by k x xs (Some old) e q there later =
    ap (λ (p : Option Outcome). tries_of (slice_get (x ∷ change_first (tried k) xs) (settled_then p (due (change_first (tried k) xs))))) e
    ∙ later q there

tries_set : (k : ℕ) (queue : List Queued) (q : Queued) → due_action queue ≡ Some q → tries_due (change_first (tried k) queue) ≡ k
tries_set k [] q there = absurd cc
tries_set k (x ∷ xs) q there = set_by k x xs x.outcome refl q there (tries_set k xs)

further_by : (outcome : Outcome) (x : Queued) (xs : List Queued) (o : Option Outcome) → x.outcome ≡ o → (q : Queued) →
    slice_get (x ∷ xs) (settled_then o (due xs)) ≡ Some q → ((y : Queued) → due_action xs ≡ Some y → due xs < due (change_first (settled outcome) xs)) →
    settled_then o (due xs) < due (change_queued (settled outcome) x xs (change_first (settled outcome) xs) o)
further_by outcome x xs None e q there later = omega arith
further_by outcome x xs (Some old) e q there later =
    let is : due (x ∷ change_first (settled outcome) xs) ≡ suc (due (change_first (settled outcome) xs)) =
    ap (λ (p : Option Outcome). settled_then p (due (change_first (settled outcome) xs))) e in
    omega (arith, is, later q there)

due_further : (outcome : Outcome) (queue : List Queued) (q : Queued) → due_action queue ≡ Some q → due queue < due (change_first (settled outcome) queue)
due_further outcome [] q there = absurd cc
due_further outcome (x ∷ xs) q there = further_by outcome x xs x.outcome refl q there (due_further outcome xs)

changed_long : (f : Queued → Queued) (x : Queued) (xs : List Queued) (o : Option Outcome) → length (change_first f xs) ≡ length xs →
    length (change_queued f x xs (change_first f xs) o) ≡ suc (length xs)
changed_long f x xs None later = refl
changed_long f x xs (Some old) later = omega (arith, later)

same_long : (f : Queued → Queued) (queue : List Queued) → length (change_first f queue) ≡ length queue
same_long f [] = refl
same_long f (x ∷ xs) = changed_long f x xs x.outcome (same_long f xs)

again_by : (tries k : ℕ) (test : Bool) → cond test (Some (tries + 1)) None ≡ Some k → k ≡ tries + 1
again_by tries k true is = sym (same_Some (tries + 1) k is)
again_by tries k false is = absurd cc

again_kind : (tries : ℕ) (kind : Kind) (k : ℕ) → again_as tries kind ≡ Some k → k ≡ tries + 1
again_kind tries kinds.MessageGone k is = absurd cc
again_kind tries kinds.AlreadySo k is = absurd cc
again_kind tries (kinds.FlagsChanged m) k is = again_by tries k (nat_lt tries 2) is
again_kind tries kinds.RefusedNo k is = absurd cc
again_kind tries kinds.RefusedBad k is = absurd cc
again_kind tries kinds.NotPermanent k is = absurd cc
again_kind tries (kinds.TargetUnknown other) k is = absurd cc
again_kind tries kinds.FoundSo k is = absurd cc
again_kind tries (kinds.StoreUnsure m f) k is = absurd cc
again_kind tries kinds.SourceGone k is = absurd cc
again_kind tries kinds.GoneAfterLoss k is = absurd cc
again_kind tries (kinds.Ambiguous u v) k is = absurd cc
again_kind tries (kinds.ValidityChanged o n) k is = absurd cc
again_kind tries (kinds.ResetAfterLoss o n) k is = absurd cc

again_one : (tries : ℕ) (outcome : Outcome) (k : ℕ) → again tries outcome ≡ Some k → k ≡ tries + 1
again_one tries (outcomes.Done place) k is = absurd cc
again_one tries (outcomes.Conflict kind) k is = again_kind tries kind k is

module _ (p : Player) (b : Meaning) where
  -- as many tries were taken back, or one more, at the last step of the one before; or less is unsettled, with the mailboxes as they were
  abbrev Stays : Event → Type 0
  Stays event = (tries_due (after b event).queue ≡ tries_due b.queue)
      ⊎ ((tries_due (after b event).queue ≡ tries_due b.queue + 1) × (rank_of p b p.learns ≡ 1))
      ⊎ ((unsettled (after b event).queue < unsettled b.queue) × ((after b event).boxes ≡ b.boxes))

  abbrev StaysFor : Need → Type 0
  StaysFor need = (event : Event) → Records need event → Stays event

  settled_tried : (outcome : Outcome) (n : ℕ) (q : Queued) → due_action b.queue ≡ Some q → Stays (events.Settle n outcome)
  settled_tried outcome n q there =
      inr (inr (
        omega (arith, due_further outcome b.queue q there, same_long (settled outcome) b.queue, place_before b.queue (due b.queue) q there),
        refl,
      ))

  ended : (ranked : rank_of p b p.learns ≡ 1) (q : Queued) → due_action b.queue ≡ Some q → (outcome : Outcome) (o : Option ℕ) →
      again (tries_due b.queue) outcome ≡ o → StaysFor (need_end (due_id b) outcome o)
  ended ranked q there outcome None is event x = subst Stays (sym x) (settled_tried outcome (due_id b) q there)
  ended ranked q there outcome (Some k) is event x =
      subst Stays (sym x) (inr (inl (tries_set k b.queue q there ∙ again_one (tries_due b.queue) outcome k is, ranked)))

  learned : (o : Option Resynced) → StaysFor (need_learn o)
  learned None event x = absurd x
  learned (Some told) event x = subst Stays (sym x) (inl refl)

  search_stays : (uidnext : ℕ) (o : Option Queued) → StaysFor (need_search uidnext o)
  search_stays uidnext None event x = absurd x
  search_stays uidnext (Some q) event x = by q.action x
    where
      by : (action : Action) → Records (search_of uidnext action) event → Stays event
      by (actions.Flag target add flags) y = absurd y
      by (actions.Move target to) y = absurd y
      by (actions.Append to flags text id) y = absurd y

  ids_stays : (told : Finding) → StaysFor (need_ids told)
  ids_stays findings.Nothing event x = absurd x
  ids_stays findings.NoRow event x = absurd x
  ids_stays (findings.Row modseq so) event x = absurd x
  ids_stays findings.Barred event x = absurd x
  ids_stays (findings.Ended outcome) event x = absurd x
  ids_stays (findings.Next validity uidnext) event x = absurd x
  ids_stays (findings.Candidates uids) event x = absurd x
  ids_stays (findings.Probed verdict) event x = absurd x

  sent_stays : (n : ℕ) (action : Action) (intent : Intent) → StaysFor (send_of n action intent)
  sent_stays n (actions.Flag target add flags) (intents.Store name validity uid modseq) event x = absurd x
  sent_stays n (actions.Flag target add flags) (intents.Shift from validity uid to) event x = absurd x
  sent_stays n (actions.Flag target add flags) (intents.Put to validity uidnext) event x = absurd x
  sent_stays n (actions.Move target other) (intents.Store name validity uid modseq) event x = absurd x
  sent_stays n (actions.Move target other) (intents.Shift from validity uid to) event x = absurd x
  sent_stays n (actions.Move target other) (intents.Put to validity uidnext) event x = absurd x
  sent_stays n (actions.Append other flags text id) (intents.Store name validity uid modseq) event x = absurd x
  sent_stays n (actions.Append other flags text id) (intents.Shift from validity uid to) event x = absurd x
  sent_stays n (actions.Append other flags text id) (intents.Put to validity uidnext) event x = absurd x

  send_stays : (o : Option Queued) (pending : Option Intent) → StaysFor (need_send (due_id b) o pending)
  send_stays None pending event x = absurd x
  send_stays (Some q) None event x = absurd x
  send_stays (Some q) (Some intent) event x = sent_stays (due_id b) q.action intent event x

  step_stays : (step : Step) → step_of p b ≡ step → p.learns ≡ None → ((outcome : Outcome) → step ≡ steps.Settle outcome →
      (q : Queued) × (due_action b.queue ≡ Some q)) → StaysFor (need_for step p b)
  step_stays steps.Learn is none due_is event x = learned p.learns event x
  step_stays (steps.Select name under) is none due_is event x = absurd x
  step_stays (steps.AskRow uid) is none due_is event x = absurd x
  step_stays (steps.Search uidnext) is none due_is event x = search_stays uidnext (due_action b.queue) event x
  step_stays steps.AskIds is none due_is event x = ids_stays p.told event x
  step_stays (steps.Intend intent) is none due_is event x = subst Stays (sym x) (inl refl)
  step_stays (steps.Settle outcome) is none due_is event x =
      let q = due_is outcome refl in
      let ranked : rank_of p b p.learns ≡ 1 = ap (λ (o : Option Resynced). rank_of p b o) none ∙ ap rank is in
      ended ranked q.0 q.1 outcome (again (tries_due b.queue) outcome) refl event x
  step_stays steps.Send is none due_is event x = send_stays (due_action b.queue) b.pending event x
  step_stays steps.Finished is none due_is event x = absurd x

  box_settles : (o : Option Known) (outcome : Outcome) → step_box o ≡ steps.Settle outcome → ⊥
  box_settles None outcome is = absurd cc
  box_settles (Some known) outcome is = absurd cc

  settles_due : (o : Option Queued) → due_action b.queue ≡ o → (outcome : Outcome) → step_due p b o ≡ steps.Settle outcome →
      (q : Queued) × (due_action b.queue ≡ Some q)
  settles_due None e outcome is = absurd (box_settles (slice_get b.boxes p.resynced) outcome is)
  settles_due (Some q) e outcome is = (q, e)

  told_stays : (o : Option Resynced) → p.learns ≡ o → StaysFor (need_of p b)
  told_stays None e event x =
      let step : step_of p b ≡ step_due p b (due_action b.queue) = ap (λ (o : Option Resynced). step_learn p b o) e in
      step_stays (step_of p b) refl e (λ outcome is. settles_due (due_action b.queue) refl outcome (sym step ∙ is)) event x
  told_stays (Some told) e event x =
      let step : step_of p b ≡ steps.Learn = ap (λ (o : Option Resynced). step_learn p b o) e in
      learned p.learns event (subst (λ (s : Step). Records (need_for s p b) event) step x)

  pub records_stays : StaysFor (need_of p b)
  records_stays = told_stays p.learns refl

counted_by : (test : Bool) (count : ℕ) → count ≤ cond test (count + 1) count
counted_by true count = omega arith
counted_by false count = omega arith

counted_more : (learns : Option Resynced) (o : Option Queued) (boxes count : ℕ) → count ≤ counted learns o boxes count
counted_more None o boxes count = omega arith
counted_more (Some told) None boxes count = counted_by (nat_lt count boxes) count
counted_more (Some told) (Some q) boxes count = omega arith

-- ---- with what is needed next it is no less short

module _ (most chose learnt : ℕ) (p : Player) (b : Meaning) where
  few_free : StaysShort most chose learnt None p b → chose + selects_for (need_of p b) ≤ most
  few_free short = by (selects_one p b) where
    by : SelectsOne p b (rank_of p b p.learns) (need_of p b) → chose + selects_for (need_of p b) ≤ most
    by (inl none) = omega (arith, short.few, none)
    by (inr one) = let far = opens_one (rank_of p b p.learns) (omega (arith, one.0)) in omega (arith, short.room, far, one.1, one.2)

  few_by : (held : Option Held) → StaysShort most chose learnt held p b → chose + selects_by held (need_of p b) ≤ most
  few_by None short = few_free short
  few_by (Some h) short = omega (arith, short.few)

  module _ (held : Option Held) (short : StaysShort most chose learnt held p b) where
    pub few_next : chose + selects_by held (need_of p b) ≤ most
    few_next = few_by held short

    pub once_next : learnt + learns_for (need_of p b) ≤ chose
    once_next = omega (arith, short.once, learns_few p b)

-- a mailbox is needed where a SELECT is
select_ranked : (p : Player) (b : Meaning) (name : List ℕ) → need_of p b ≡ needs.Select name → rank_of p b p.learns ≡ 7
select_ranked p b name needed = by (selects_one p b) where
  by : SelectsOne p b (rank_of p b p.learns) (need_of p b) → rank_of p b p.learns ≡ 7
  by (inl none) = absurd (let one : selects_for (need_of p b) ≡ 1 = ap selects_for needed in omega (arith, none, one))
  by (inr one) = one.0

asked_learns : (need : Need) (tries count : ℕ) (tag : Tag) (command : Command) → IsAskedFor need tries count tag command → learns_for need ≡ 0
asked_learns (needs.Select name) tries count tag command asked = absurd asked
asked_learns (needs.Ask question) tries count tag command asked = refl
asked_learns (needs.Commit event) tries count tag command asked = absurd asked
asked_learns (needs.Settle n outcome) tries count tag command asked = absurd asked
asked_learns (needs.Withdraw n k) tries count tag command asked = absurd asked
asked_learns (needs.Send n sent) tries count tag command asked = refl
asked_learns needs.Finished tries count tag command asked = absurd asked

recorded_selects : (need : Need) (event : Event) → Records need event → selects_for need ≡ 0
recorded_selects (needs.Select name) event x = absurd x
recorded_selects (needs.Ask command) event x = absurd x
recorded_selects (needs.Commit told) event x = refl
recorded_selects (needs.Settle n outcome) event x = refl
recorded_selects (needs.Withdraw n k) event x = refl
recorded_selects (needs.Send n command) event x = absurd x
recorded_selects needs.Finished event x = absurd x

asked_selects : (need : Need) (tries count : ℕ) (tag : Tag) (command : Command) → IsAskedFor need tries count tag command → selects_for need ≡ 0
asked_selects (needs.Select name) tries count tag command asked = absurd asked
asked_selects (needs.Ask question) tries count tag command asked = refl
asked_selects (needs.Commit event) tries count tag command asked = absurd asked
asked_selects (needs.Settle n outcome) tries count tag command asked = absurd asked
asked_selects (needs.Withdraw n k) tries count tag command asked = absurd asked
asked_selects (needs.Send n sent) tries count tag command asked = refl
asked_selects needs.Finished tries count tag command asked = absurd asked

-- one turn more
module _ (p q : Standing) (most chose learnt : ℕ) (falls : turns_left_at q < turns_left_at p)
    (short : StaysShort most chose learnt p.held p.player p.store.book) where
  abbrev Few : Type 0
  Few = StaysShort most (chose + selects_at p) (learnt + learns_for (need_at p)) q.held q.player q.store.book

  few : chose + selects_at p ≤ most
  few = few_next most chose learnt p.player p.store.book p.held short

  abbrev RankBefore : ℕ
  RankBefore = rank_of p.player p.store.book p.player.learns

  abbrev RankBehind : ℕ
  RankBehind = rank_of q.player q.store.book q.player.learns

  abbrev RestBefore : ℕ
  RestBefore = rest_of p.player p.store.book

  abbrev RestBehind : ℕ
  RestBehind = rest_of q.player q.store.book

  left_before : left p.player p.store.book ≡ RankBefore + 4 * (2 - tries_at p) + 16 * unsettled p.store.book.queue
      + 16 * (length p.store.book.boxes - p.player.resynced)
  left_before = refl

  left_behind : left q.player q.store.book ≡ RankBehind + 4 * (2 - tries_at q) + 16 * unsettled q.store.book.queue
      + 16 * (length q.store.book.boxes - q.player.resynced)
  left_behind = refl

  no_more : left q.player q.store.book ≤ left p.player p.store.book
  no_more = left_no_more p q falls

  most_before : RankBefore ≤ 8
  most_before = rank_most p.player p.store.book p.player.learns

  -- as many tries were taken back before, or one more, at the last step of the one before; or less is to be played or resynchronised
  abbrev Narrows : Type 0
  Narrows = (tries_at q ≡ tries_at p) ⊎ ((tries_at q ≡ tries_at p + 1) × (RankBefore ≡ 1)) ⊎ (RestBehind < RestBefore)

  abbrev NoWider : Type 0
  NoWider = RestBehind + opens RankBehind ≤ RestBefore + opens RankBefore

  -- as much is, and the step is as near to the end
  level : RestBehind ≡ RestBefore → tries_at q ≡ tries_at p → NoWider
  level same tries =
      let nearer = opens_less RankBehind RankBefore (omega (arith, no_more, left_before, left_behind, tries, same)) in
      omega (arith, nearer, same)

  module _ (fell : left q.player q.store.book < left p.player p.store.book) where
    nearer_by : RestBehind ≡ RestBefore → Narrows → NoWider
    nearer_by same (inl tries) = level same tries
    nearer_by same (inr (inl (more, last))) =
        let none = opens_none RankBehind (omega (arith, fell, left_before, left_behind, more, last, same)) in
        omega (arith, none, same)
    nearer_by same (inr (inr fewer)) = absurd (omega (arith, fewer, same))

    narrower : Narrows → NoWider
    narrower stays = by (nat_lt RestBehind RestBefore) refl
      where
        by : (test : Bool) → nat_lt RestBehind RestBefore ≡ test → NoWider
        by true e = let fewer = ltb-true RestBehind RestBefore e in omega (arith, fewer, opens_most RankBehind)
        by false e =
            let not_fewer = ltb-false RestBehind RestBefore e in
            nearer_by (omega (arith, not_fewer, fell, left_before, left_behind, most_before)) stays

    -- a SELECT is taken
    taken : RestBehind ≡ RestBefore → tries_at q ≡ tries_at p → RankBefore ≡ 7 → RestBehind + opens RankBehind ≤ RestBefore
    taken same tries ranked =
        let none = opens_none RankBehind (omega (arith, fell, left_before, left_behind, tries, ranked, same)) in
        omega (arith, none, same)

  -- where the store is the same, and as many mailboxes were resynchronised
  tries_same : q.store ≡ p.store → tries_at q ≡ tries_at p
  tries_same same = ap (λ (s : Holding mail). tries_due s.book.queue) same

  rest_same : q.store ≡ p.store → q.player.resynced ≡ p.player.resynced → RestBehind ≡ RestBefore
  rest_same same resynced =
      let queue : unsettled q.store.book.queue ≡ unsettled p.store.book.queue = ap (λ (s : Holding mail). unsettled s.book.queue) same in
      let boxes : length q.store.book.boxes ≡ length p.store.book.boxes = ap (λ (s : Holding mail). length s.book.boxes) same in
      omega (arith, queue, boxes, resynced)

  -- where no reply is held before and behind it, and none is selected
  module _ (before : p.held ≡ None) (behind : q.held ≡ None) (none : selects_for (need_at p) ≡ 0) where
    counts : selects_at p ≡ 0
    counts = ap (λ (o : Option Held). selects_by o (need_at p)) before ∙ none

    none_before : held_of p.held ≡ 0
    none_before = ap held_of before

    none_behind : held_of q.held ≡ 0
    none_behind = ap held_of behind

    goes : Narrows → learnt + learns_for (need_at p) + pending_in q.player.learns ≤ chose → Few
    goes stays once =
        let less = narrower (left_less p q behind falls) stays in
        record {
          room = omega (arith, short.room, less, counts, none_before, none_behind);
          few = few;
          once = omega (arith, once, counts, none_behind);
        }

  -- a record
  narrows_by : (event : Event) → Records (need_at p) event →
      q ≡ record p { store = recorded p.store event; player = committed p.player (after p.store.book event) } → Narrows
  narrows_by event needed is = by (records_stays p.player p.store.book event needed)
    where
      tries_now : tries_at q ≡ tries_due (after p.store.book event).queue
      tries_now = ap tries_at is

      unsettled_now : unsettled q.store.book.queue ≡ unsettled (after p.store.book event).queue
      unsettled_now = ap (λ (s : Standing). unsettled s.store.book.queue) is

      boxes_now : length q.store.book.boxes ≡ length (after p.store.book event).boxes
      boxes_now = ap (λ (s : Standing). length s.store.book.boxes) is

      counted_now : p.player.resynced ≤ q.player.resynced
      counted_now =
          subst (λ (s : Standing). p.player.resynced ≤ s.player.resynced) (sym is)
          (counted_more p.player.learns (due_action (after p.store.book event).queue) (length (after p.store.book event).boxes) p.player.resynced)

      by : Stays p.player p.store.book event → Narrows
      by (inl same) = inl (tries_now ∙ same)
      by (inr (inl (more, last))) = inr (inl (tries_now ∙ more, last))
      by (inr (inr (fewer, boxes))) =
          let as_many : length (after p.store.book event).boxes ≡ length p.store.book.boxes = ap length boxes in
          inr (inr (omega (arith, fewer, unsettled_now, boxes_now, as_many, counted_now)))

  pub stays_short : Turns p q → Few
  stays_short (records event resting needed is) =
      let none : pending_in q.player.learns ≡ 0 = ap (λ (s : Standing). pending_in s.player.learns) is in
      let behind : q.held ≡ None = ap (λ (s : Standing). s.held) is ∙ resting in
      goes resting behind (recorded_selects (need_at p) event needed) (narrows_by event needed is)
      (omega (arith, short.once, learns_few p.player p.store.book, none))
  stays_short (selects name delta resting needed came chosen selected unheld same) =
      let one : selects_at p ≡ 1 = ap (λ (o : Option Held). selects_by o (need_at p)) resting ∙ ap selects_for needed in
      let no : learns_for (need_at p) ≡ 0 = ap learns_for needed in
      let none_before : held_of p.held ≡ 0 = ap held_of resting in
      let none_behind : held_of q.held ≡ 0 = ap held_of unheld in
      let ranked : RankBefore ≡ 7 = select_ranked p.player p.store.book name needed in
      let far : opens RankBefore ≡ 1 = opens_one RankBefore (omega (arith, ranked)) in
      let fell : left q.player q.store.book < left p.player p.store.book = left_less p q unheld falls in
      let count = (chosen_keeps p.player q.player p.store.book (Ok delta) chosen).resynced in
      let shut : RestBehind + opens RankBehind ≤ RestBefore = taken fell (rest_same same count) (tries_same same) ranked in
      record {
        room = omega (arith, short.room, shut, one, far, none_before, none_behind);
        few = few;
        once = omega (arith, short.once, no, one, none_before, none_behind, pending_most q.player.learns);
      }
  stays_short (holds h r event resting needed came is tells reset permits selected here same player) =
      let one : selects_at p ≡ 1 = ap (λ (o : Option Held). selects_by o (need_at p)) resting ∙ ap selects_for needed in
      let no : learns_for (need_at p) ≡ 0 = ap learns_for needed in
      let none : held_of p.held ≡ 0 = ap held_of resting in
      let now : held_of q.held ≡ 1 = ap held_of here in
      let still : pending_in q.player.learns ≡ pending_in p.player.learns = ap (λ (x : Player). pending_in x.learns) player in
      let less = level (rest_same same (ap (λ (x : Player). x.resynced) player)) (tries_same same) in
      record {
        room = omega (arith, short.room, less, one, none, now);
        few = few;
        once = omega (arith, short.once, one, no, still, none, now);
      }
  stays_short (resets h event here needed reset is) =
      let none : selects_at p ≡ 0 = ap (λ (o : Option Held). selects_by o (need_at p)) here in
      let no : learns_for (need_at p) ≡ 0 = ap learns_for needed in
      let held : held_of q.held ≡ held_of p.held = ap (λ (s : Standing). held_of s.held) is in
      let still : pending_in q.player.learns ≡ pending_in p.player.learns = ap (λ (s : Standing). pending_in s.player.learns) is in
      let r = reset_told h.chosen.name (cache_at h.chosen.name p.store.book.boxes) h.told event reset in
      let tries : tries_at q ≡ tries_at p =
      ap tries_at is ∙ ap (λ (e : Event). tries_due (after p.store.book e).queue) r.is in
      let queue : unsettled q.store.book.queue ≡ unsettled p.store.book.queue =
      ap (λ (s : Standing). unsettled s.store.book.queue) is ∙ ap (λ (e : Event). unsettled (after p.store.book e).queue) r.is in
      let boxes : length q.store.book.boxes ≡ length p.store.book.boxes =
      ap (λ (s : Standing). length s.store.book.boxes) is ∙ ap (λ (e : Event). length (after p.store.book e).boxes) r.is
      ∙ put_length h.chosen.name None p.store.book.boxes in
      let count : q.player.resynced ≡ p.player.resynced = ap (λ (s : Standing). s.player.resynced) is in
      let less = level (omega (arith, queue, boxes, count)) tries in
      record {
        room = omega (arith, short.room, less, none, held);
        few = few;
        once = omega (arith, short.once, none, no, still, held);
      }
  stays_short (fetches h delta here needed away came chosen selected permits unheld same) =
      let none : selects_at p ≡ 0 = ap (λ (o : Option Held). selects_by o (need_at p)) here in
      let no : learns_for (need_at p) ≡ 0 = ap learns_for needed in
      let one : held_of p.held ≡ 1 = ap held_of here in
      let gone : held_of q.held ≡ 0 = ap held_of unheld in
      let ranked : RankBefore ≡ 7 = select_ranked p.player p.store.book h.chosen.name needed in
      let far : opens RankBefore ≡ 1 = opens_one RankBefore (omega (arith, ranked)) in
      let before : pending_in p.player.learns ≡ 0 = ap pending_in (selects_none p.player p.store.book h.chosen.name needed) in
      let fell : left q.player q.store.book < left p.player p.store.book = left_less p q unheld falls in
      let count = (chosen_keeps p.player q.player p.store.book (Ok delta) chosen).resynced in
      let shut : RestBehind + opens RankBehind ≤ RestBefore = taken fell (rest_same same count) (tries_same same) ranked in
      record {
        room = omega (arith, short.room, shut, far, none, one, gone);
        few = few;
        once = omega (arith, short.once, none, no, before, one, gone, pending_most q.player.learns);
      }
  stays_short (asks tag command r resting needed asked heard selected permits unheld same) =
      let no = asked_learns (need_at p) (tries_at p) p.stage.count tag command needed in
      let still : pending_in q.player.learns ≡ pending_in p.player.learns = ap (λ (x : Player). pending_in x.learns) heard.is in
      goes resting unheld (asked_selects (need_at p) (tries_at p) p.stage.count tag command needed) (inl (tries_same same))
      (omega (arith, short.once, no, still))

-- a run's turns, and one more
pub runs_start : (p : Standing) → RunsBetween p p
runs_start p = record { selects = 0; learns = 0; runs = rests; short = λ most h. h }

pub runs_on : (p q r : Standing) → RunsBetween p q → Turns q r → turns_left_at r < turns_left_at q → RunsBetween p r
runs_on p q r x turn falls = record {
  selects = x.selects + selects_at q;
  learns = x.learns + learns_for (need_at q);
  runs = turns q r x.selects x.learns x.runs turn falls;
  short = λ most h. stays_short q r most x.selects x.learns falls (x.short most h) turn;
}

-- a run as it begins
pub short_first : (alloc : Global) (b : Meaning) → StaysShort (unsettled b.queue + length b.boxes) 0 0 None (begun_with alloc b) b
short_first alloc b =
    record {
      room = omega (arith, opens_most (rank_of (begun_with alloc b) b None));
      few = omega arith;
      once = omega arith;
    }

-- and as it ends
pub short_last : (chose learnt : ℕ) (p : Standing) (b : Meaning) → StaysShort (unsettled b.queue + length b.boxes) chose learnt p.held p.player p.store.book →
    IsShort b chose learnt p
short_last chose learnt p b x =
    let most = unsettled b.queue + length b.boxes in
    record { few = few_next most chose learnt p.player p.store.book p.held x; once = once_next most chose learnt p.player p.store.book p.held x }
