-- When nothing more is needed, and which needs take no memory.
use Rattle.std.proofs.Common.{◌≡◌, ◌↔◌, ◌⊎◌, inl, inr, ℕ, ◌<◌, ◌≤◌, arith, Bool, true, false, cond, eqb, List, length, Option, Some, None}
use Rattle.std.proofs.Common.{refl, sym, ◌∙◌, subst}
use Rattle.std.specs.Prelude.{get_or, slice_get}
use Rattle.std.proofs.lemmas.Bool.{cond_both}
use Rattle.std.proofs.lemmas.Option.{slice_get_cases, slice_get_past}
use Rattle.action_queue.specs.Book.{Meaning}
use Rattle.action_queue.specs.Queues.{AllSettled, due, due_action, tries_due}
use Rattle.action_queue.specs.Targets.{resolved}
use Rattle.action_queue.specs.declared.action.Action.{Action}
use Rattle.action_queue.specs.declared.action.Action.TheVariants as actions
use Rattle.action_queue.specs.declared.book.Known.{Known}
use Rattle.action_queue.specs.declared.found.Found.{Found}
use Rattle.action_queue.specs.declared.found.Found.TheVariants as found
use Rattle.action_queue.specs.declared.intent.Intent.{Intent}
use Rattle.action_queue.specs.declared.intent.Intent.TheVariants as intents
use Rattle.action_queue.specs.declared.outcome.Kind.TheVariants as kinds
use Rattle.action_queue.specs.declared.queued.Queued.{Queued}
use Rattle.action_queue.specs.declared.target.Target.{Target}
use Rattle.action_queue.proofs.Queueing.{all_settled, due_within, settled_all}
use Rattle.append_probe.specs.declared.verdict.Verdict.{Verdict}
use Rattle.append_probe.specs.declared.verdict.Verdict.TheVariants as verdicts
use Rattle.playback.proofs.Elsewhere.{elsewhere_any}
use Rattle.playback.specs.Steps.{above_at, elsewhere}
use Rattle.playback.proofs.Trying.{end_any}
use Rattle.playback.specs.Needs.{IsFinished, again, due_id, need_for, need_ids, need_learn, need_of, need_search, need_send}
use Rattle.playback.specs.Needs.{search_of, send_meant, send_of}
use Rattle.playback.specs.Steps.{append_again, append_first, append_in_box, append_judged, append_meant, append_new, append_open, conflict}
use Rattle.playback.specs.Steps.{flag_again, flag_first, flag_judged, flag_meant, flag_new, flag_open, in_box, is_selected, is_selected_at}
use Rattle.playback.specs.Steps.{move_again, move_first, move_meant, move_open, select_any, step_action}
use Rattle.playback.specs.Steps.{step_append, step_box, step_due, step_flag_at, step_flag_found, step_learn, step_move_at, step_move_found}
use Rattle.playback.specs.declared.finding.Finding.{Finding}
use Rattle.playback.specs.declared.finding.Finding.TheVariants as findings
use Rattle.playback.specs.declared.finding.Resynced.{Resynced}
use Rattle.playback.specs.declared.finding.Spot.{Spot}
use Rattle.playback.specs.declared.need.Need.{Need}
use Rattle.playback.specs.declared.need.Need.TheVariants as needs
use Rattle.playback.specs.declared.player.Player.{Player}
use Rattle.playback.specs.declared.step.Step.{Step}
use Rattle.playback.specs.declared.step.Step.TheVariants as steps
use Rattle.playback.proofs.RowFacts.{spot_at}

-- which needs a step has
abbrev pub IsCommit : Need → Type 0
IsCommit (needs.Select name) = ⊥
IsCommit (needs.Ask command) = ⊥
IsCommit (needs.Commit event) = Unit {0}
IsCommit (needs.Settle n outcome) = ⊥
IsCommit (needs.Withdraw n tries) = ⊥
IsCommit (needs.Send n command) = ⊥
IsCommit needs.Finished = ⊥

abbrev IsAsk : Need → Type 0
IsAsk (needs.Select name) = ⊥
IsAsk (needs.Ask command) = Unit {0}
IsAsk (needs.Commit event) = ⊥
IsAsk (needs.Settle n outcome) = ⊥
IsAsk (needs.Withdraw n tries) = ⊥
IsAsk (needs.Send n command) = ⊥
IsAsk needs.Finished = ⊥

abbrev IsSend : Need → Type 0
IsSend (needs.Select name) = ⊥
IsSend (needs.Ask command) = ⊥
IsSend (needs.Commit event) = ⊥
IsSend (needs.Settle n outcome) = ⊥
IsSend (needs.Withdraw n tries) = ⊥
IsSend (needs.Send n command) = Unit {0}
IsSend needs.Finished = ⊥

-- of a step that isn't the last one
abbrev IsNeedOf : Step → Need → Type 0
IsNeedOf steps.Learn need = IsCommit need
IsNeedOf (steps.Select name under) need = Unit {0}
IsNeedOf (steps.AskRow uid) need = Unit {0}
IsNeedOf (steps.Search uidnext) need = IsAsk need
IsNeedOf steps.AskIds need = IsAsk need
IsNeedOf (steps.Intend intent) need = Unit {0}
IsNeedOf (steps.Settle outcome) need = Unit {0}
IsNeedOf steps.Send need = IsSend need
IsNeedOf steps.Finished need = ⊥

abbrev pub HasItsNeed : Player → Meaning → Step → Type 0
HasItsNeed p b step = IsNeedOf step (need_for step p b)

module _ (p : Player) (b : Meaning) (q : Queued) (e : due_action b.queue ≡ Some q) where
  boxed_has : (meant : Bool) (spot : Spot) (step : Step) → HasItsNeed p b step → HasItsNeed p b (in_box p.selected meant spot step)
  boxed_has meant spot step h =
      cond_both (is_selected p.selected spot) step (elsewhere meant (above_at p.selected spot.name spot.validity) spot.name spot.validity)
      (λ (s : Step). HasItsNeed p b s) (λ t. h)
      (λ f. elsewhere_any (λ (s : Step). HasItsNeed p b s) p.selected meant spot.name spot.validity tt (λ n a. tt))

  send_has : (intent : Intent) → b.pending ≡ Some intent → IsSend (send_of (due_id b) q.action intent) → HasItsNeed p b steps.Send
  send_has intent pending h =
      subst (λ (o : Option Queued). IsSend (need_send (due_id b) o b.pending)) (sym e)
      (subst (λ (o : Option Intent). IsSend (send_meant (due_id b) q.action o)) (sym pending) h)

  -- a flag action
  new_has : (modseq : ℕ) (so : Bool) (spot : Spot) → HasItsNeed p b (flag_new modseq so spot)
  new_has modseq true spot = tt
  new_has modseq false spot = tt

  first_has : (told : Finding) (spot : Spot) → HasItsNeed p b (flag_first told spot)
  first_has findings.Nothing spot = tt
  first_has findings.NoRow spot = tt
  first_has (findings.Row modseq so) spot = new_has modseq so spot
  first_has findings.Barred spot = tt
  first_has (findings.Ended outcome) spot = tt
  first_has (findings.Next validity uidnext) spot = tt
  first_has (findings.Candidates uids) spot = tt
  first_has (findings.Probed verdict) spot = tt

  module _ (sends : HasItsNeed p b steps.Send) where
    judged_has : (mark modseq : ℕ) (so : Bool) → HasItsNeed p b (flag_judged mark modseq so)
    judged_has mark modseq so =
        cond_both (eqb modseq mark) steps.Send (cond so (conflict kinds.FoundSo) (conflict (kinds.StoreUnsure mark modseq)))
        (λ (s : Step). HasItsNeed p b s)
        (λ t. sends)
        (λ f. cond_both so (conflict kinds.FoundSo) (conflict (kinds.StoreUnsure mark modseq)) (λ (s : Step). HasItsNeed p b s) (λ t. tt)
        (λ g. tt))

    open_has : (mark : ℕ) (told : Finding) (spot : Spot) → HasItsNeed p b (flag_open mark told spot)
    open_has mark findings.Nothing spot = tt
    open_has mark findings.NoRow spot = tt
    open_has mark (findings.Row modseq so) spot = judged_has mark modseq so
    open_has mark findings.Barred spot = tt
    open_has mark (findings.Ended outcome) spot = tt
    open_has mark (findings.Next validity uidnext) spot = tt
    open_has mark (findings.Candidates uids) spot = tt
    open_has mark (findings.Probed verdict) spot = tt

    again_has : (resumed : Bool) (mark : ℕ) (told : Finding) (spot : Spot) → HasItsNeed p b (flag_again resumed mark told spot)
    again_has false mark told spot = sends
    again_has true mark told spot = open_has mark told spot

    again_boxed : (mark : ℕ) (told : Finding) (spot : Spot) → HasItsNeed p b (in_box p.selected true spot (flag_again p.resumed mark told spot))
    again_boxed mark told spot = boxed_has true spot (flag_again p.resumed mark told spot) (again_has p.resumed mark told spot)

    meant_has : (mark : ℕ) (spot : Spot) (told : Finding) → HasItsNeed p b (flag_meant p mark spot told)
    meant_has mark spot findings.Nothing = again_boxed mark findings.Nothing spot
    meant_has mark spot findings.NoRow = again_boxed mark findings.NoRow spot
    meant_has mark spot (findings.Row modseq so) = again_boxed mark (findings.Row modseq so) spot
    meant_has mark spot findings.Barred = again_boxed mark findings.Barred spot
    meant_has mark spot (findings.Ended outcome) = tt
    meant_has mark spot (findings.Next validity uidnext) = again_boxed mark (findings.Next validity uidnext) spot
    meant_has mark spot (findings.Candidates uids) = again_boxed mark (findings.Candidates uids) spot
    meant_has mark spot (findings.Probed verdict) = again_boxed mark (findings.Probed verdict) spot

    -- a move
    move_open_has : (told : Finding) (spot : Spot) → HasItsNeed p b (move_open told spot)
    move_open_has findings.Nothing spot = tt
    move_open_has findings.NoRow spot = tt
    move_open_has (findings.Row modseq so) spot = sends
    move_open_has findings.Barred spot = tt
    move_open_has (findings.Ended outcome) spot = tt
    move_open_has (findings.Next validity uidnext) spot = tt
    move_open_has (findings.Candidates uids) spot = tt
    move_open_has (findings.Probed verdict) spot = tt

    move_again_has : (resumed : Bool) (told : Finding) (spot : Spot) → HasItsNeed p b (move_again resumed told spot)
    move_again_has false told spot = sends
    move_again_has true told spot = move_open_has told spot

    move_boxed : (told : Finding) (spot : Spot) → HasItsNeed p b (in_box p.selected true spot (move_again p.resumed told spot))
    move_boxed told spot = boxed_has true spot (move_again p.resumed told spot) (move_again_has p.resumed told spot)

    move_meant_has : (spot : Spot) (told : Finding) → HasItsNeed p b (move_meant p spot told)
    move_meant_has spot findings.Nothing = move_boxed findings.Nothing spot
    move_meant_has spot findings.NoRow = move_boxed findings.NoRow spot
    move_meant_has spot (findings.Row modseq so) = move_boxed (findings.Row modseq so) spot
    move_meant_has spot findings.Barred = move_boxed findings.Barred spot
    move_meant_has spot (findings.Ended outcome) = tt
    move_meant_has spot (findings.Next validity uidnext) = move_boxed (findings.Next validity uidnext) spot
    move_meant_has spot (findings.Candidates uids) = move_boxed (findings.Candidates uids) spot
    move_meant_has spot (findings.Probed verdict) = move_boxed (findings.Probed verdict) spot

    -- an append
    put_judged_has : (verdict : Verdict) (validity : ℕ) → HasItsNeed p b (append_judged verdict validity)
    put_judged_has verdicts.NotThere validity = sends
    put_judged_has (verdicts.There uid) validity = tt
    put_judged_has (verdicts.Several first second) validity = tt

    module _ (asks : (uidnext : ℕ) → HasItsNeed p b (steps.Search uidnext)) (to : List ℕ) (validity uidnext : ℕ) where
      put_open_has : (told : Finding) → p.told ≡ told → HasItsNeed p b (append_open told to validity uidnext)
      put_open_has findings.Nothing is = tt
      put_open_has findings.NoRow is = tt
      put_open_has (findings.Row modseq so) is = tt
      put_open_has findings.Barred is = tt
      put_open_has (findings.Ended outcome) is = tt
      put_open_has (findings.Next v l) is = asks uidnext
      put_open_has (findings.Candidates uids) is = subst (λ (x : Finding). IsAsk (need_ids x)) (sym is) tt
      put_open_has (findings.Probed verdict) is = put_judged_has verdict validity

      put_again_has : (resumed : Bool) (told : Finding) → p.told ≡ told → HasItsNeed p b (append_again resumed told to validity uidnext)
      put_again_has false told is = sends
      put_again_has true told is = put_open_has told is

      put_boxed : (told : Finding) → p.told ≡ told → HasItsNeed p b (append_in_box p to validity uidnext told)
      put_boxed told is =
          cond_both (is_selected_at p.selected to validity) (append_again p.resumed told to validity uidnext)
          (elsewhere true (above_at p.selected to validity) to validity)
          (λ (s : Step). HasItsNeed p b s)
          (λ t. put_again_has p.resumed told is) (λ f. elsewhere_any (λ (s : Step). HasItsNeed p b s) p.selected true to validity tt (λ n a. tt))

      put_meant_has : (told : Finding) → p.told ≡ told → HasItsNeed p b (append_meant p to validity uidnext told)
      put_meant_has findings.Nothing is = put_boxed findings.Nothing is
      put_meant_has findings.NoRow is = put_boxed findings.NoRow is
      put_meant_has (findings.Row modseq so) is = put_boxed (findings.Row modseq so) is
      put_meant_has findings.Barred is = put_boxed findings.Barred is
      put_meant_has (findings.Ended outcome) is = tt
      put_meant_has (findings.Next v l) is = put_boxed (findings.Next v l) is
      put_meant_has (findings.Candidates uids) is = put_boxed (findings.Candidates uids) is
      put_meant_has (findings.Probed verdict) is = put_boxed (findings.Probed verdict) is

  module _ (target : Target) (add : Bool) (flags : List (List ℕ)) (a : q.action ≡ actions.Flag target add flags) where
    flag_at_has : (pending : Option Intent) → b.pending ≡ pending → (spot : Spot) → HasItsNeed p b (step_flag_at p pending spot)
    flag_at_has None h spot = boxed_has false spot (flag_first p.told spot) (first_has p.told spot)
    flag_at_has (Some (intents.Store name validity uid modseq)) h spot =
        meant_has
        (send_has (intents.Store name validity uid modseq) h
        (subst (λ (x : Action). IsSend (send_of (due_id b) x (intents.Store name validity uid modseq))) (sym a) tt))
        modseq spot p.told
    flag_at_has (Some (intents.Shift from validity uid to)) h spot = tt
    flag_at_has (Some (intents.Put to validity uidnext)) h spot = tt

    flag_has : (f : Found) → HasItsNeed p b (step_flag_found p b.pending f)
    flag_has (found.Real name validity uid) = flag_at_has b.pending refl (spot_at name validity uid)
    flag_has (found.NotYet by) = tt
    flag_has (found.Never by) = tt

  move_first_has : (told : Finding) (spot : Spot) (to : List ℕ) → HasItsNeed p b (move_first told spot to)
  move_first_has findings.Nothing spot to = tt
  move_first_has findings.NoRow spot to = tt
  move_first_has (findings.Row modseq so) spot to = tt
  move_first_has findings.Barred spot to = tt
  move_first_has (findings.Ended outcome) spot to = tt
  move_first_has (findings.Next validity uidnext) spot to = tt
  move_first_has (findings.Candidates uids) spot to = tt
  move_first_has (findings.Probed verdict) spot to = tt

  module _ (target : Target) (to : List ℕ) (a : q.action ≡ actions.Move target to) where
    move_at_has : (pending : Option Intent) → b.pending ≡ pending → (spot : Spot) → HasItsNeed p b (step_move_at p pending spot to)
    move_at_has None h spot = boxed_has false spot (move_first p.told spot to) (move_first_has p.told spot to)
    move_at_has (Some (intents.Shift from validity uid other)) h spot =
        move_meant_has
        (send_has (intents.Shift from validity uid other) h
        (subst (λ (x : Action). IsSend (send_of (due_id b) x (intents.Shift from validity uid other))) (sym a) tt))
        spot p.told
    move_at_has (Some (intents.Store name validity uid modseq)) h spot = tt
    move_at_has (Some (intents.Put other validity uidnext)) h spot = tt

    move_has : (f : Found) → HasItsNeed p b (step_move_found p b.pending to f)
    move_has (found.Real name validity uid) = move_at_has b.pending refl (spot_at name validity uid)
    move_has (found.NotYet by) = tt
    move_has (found.Never by) = tt

  put_new_has : (to : List ℕ) (validity uidnext : ℕ) → HasItsNeed p b (append_new p.selected to validity uidnext)
  put_new_has to validity uidnext =
      cond_both (is_selected_at p.selected to validity) (steps.Intend (intents.Put to validity uidnext)) (select_any to)
      (λ (s : Step). HasItsNeed p b s) (λ t. tt) (λ f. tt)

  put_first_has : (told : Finding) (to : List ℕ) → HasItsNeed p b (append_first p.selected told to)
  put_first_has findings.Nothing to = tt
  put_first_has findings.NoRow to = tt
  put_first_has (findings.Row modseq so) to = tt
  put_first_has findings.Barred to = tt
  put_first_has (findings.Ended outcome) to = tt
  put_first_has (findings.Next validity uidnext) to = put_new_has to validity uidnext
  put_first_has (findings.Candidates uids) to = tt
  put_first_has (findings.Probed verdict) to = tt

  module _ (to : List ℕ) (flags : List (List ℕ)) (text id : List ℕ) (a : q.action ≡ actions.Append to flags text id) where
    search_has : (uidnext : ℕ) → HasItsNeed p b (steps.Search uidnext)
    search_has uidnext =
        subst (λ (o : Option Queued). IsAsk (need_search uidnext o)) (sym e)
        (subst (λ (x : Action). IsAsk (search_of uidnext x)) (sym a) tt)

    append_has : (pending : Option Intent) → b.pending ≡ pending → HasItsNeed p b (step_append p pending to)
    append_has None h = put_first_has p.told to
    append_has (Some (intents.Put other validity uidnext)) h =
        put_meant_has
        (send_has (intents.Put other validity uidnext) h
        (subst (λ (x : Action). IsSend (send_of (due_id b) x (intents.Put other validity uidnext))) (sym a) tt))
        search_has to validity uidnext p.told refl
    append_has (Some (intents.Store name validity uid modseq)) h = tt
    append_has (Some (intents.Shift from validity uid other)) h = tt

  action_has : (action : Action) → q.action ≡ action → HasItsNeed p b (step_action p b action)
  action_has (actions.Flag target add flags) a = flag_has target add flags a (resolved b.queue target)
  action_has (actions.Move target to) a = move_has target to a (resolved b.queue target)
  action_has (actions.Append to flags text id) a = append_has to flags text id a b.pending refl

-- such a need isn't the last one
not_last : (p : Player) (b : Meaning) (step : Step) → HasItsNeed p b step → need_for step p b ≡ needs.Finished → ⊥
not_last p b steps.Learn = λ h e. subst IsCommit e h
not_last p b (steps.Select name under) = λ h e. absurd (cc)
not_last p b (steps.AskRow uid) = λ h e. absurd (cc)
not_last p b (steps.Search uidnext) = λ h e. subst IsAsk e h
not_last p b steps.AskIds = λ h e. subst IsAsk e h
not_last p b (steps.Intend intent) = λ h e. absurd (cc)
not_last p b (steps.Settle outcome) = λ h e.
    end_any (λ (need : Need). need ≡ needs.Finished → ⊥) (λ n o x. absurd (cc)) (λ n k x. absurd (cc)) (due_id b) outcome (again (tries_due b.queue) outcome) e
not_last p b steps.Send = λ h e. subst IsSend e h
not_last p b steps.Finished = λ h e. h

due_has : (p : Player) (b : Meaning) (q : Queued) → due_action b.queue ≡ Some q → HasItsNeed p b (step_action p b q.action)
due_has p b q e = action_has p b q e q.action refl

learn_has : (p : Player) (b : Meaning) (told : Resynced) → p.learns ≡ Some told → HasItsNeed p b steps.Learn
learn_has p b told h = subst (λ (o : Option Resynced). IsCommit (need_learn o)) (sym h) tt

-- nothing stands behind the end
within_none : {X : Type 0} (xs : List X) (i : ℕ) → slice_get xs i ≡ None →
    ((x : X) × (i < length xs) × (slice_get xs i ≡ Some x) × (get_or xs i x ≡ x)) ⊎ ((length xs ≤ i) × (slice_get xs i ≡ None)) →
    length xs ≤ i
within_none xs i e (inl h) = let k : None ≡ Some h.0 = sym e ∙ h.2 in absurd (cc)
within_none xs i e (inr h) = h.0

past_end : {X : Type 0} (xs : List X) (i : ℕ) → slice_get xs i ≡ None → length xs ≤ i
past_end xs i e = within_none xs i e (slice_get_cases xs i).1

-- all is settled where no action is due
none_due : (queue : List Queued) → due_action queue ≡ None → AllSettled queue
none_due queue e = all_settled queue (omega (arith, due_within queue, past_end queue (due queue) e))

all_due : (queue : List Queued) → AllSettled queue → due_action queue ≡ None
all_due queue a = slice_get_past queue (due queue) (omega (arith, settled_all queue a))

module _ (p : Player) (b : Meaning) where
  box_end : p.learns ≡ None → due_action b.queue ≡ None → (o : Option Known) → slice_get b.boxes p.resynced ≡ o →
      (need_for (step_box o) p b ≡ needs.Finished) ↔ IsFinished p b
  box_end h n None k = (
    λ _. record { recorded = h; settled = none_due b.queue n; resynced = past_end b.boxes p.resynced k },
    λ _. refl,
  )
  box_end h n (Some known) k = (
    λ f. absurd (cc),
    λ f. let l : Some known ≡ None = sym k ∙ slice_get_past b.boxes p.resynced f.resynced in absurd (cc),
  )

  due_end : p.learns ≡ None → (o : Option Queued) → due_action b.queue ≡ o →
      (need_for (step_due p b o) p b ≡ needs.Finished) ↔ IsFinished p b
  due_end h None e = box_end h e (slice_get b.boxes p.resynced) refl
  due_end h (Some q) e = (
    λ f. absurd (not_last p b (step_action p b q.action) (due_has p b q e) f),
    λ f. let l : Some q ≡ None = sym e ∙ all_due b.queue f.settled in absurd (cc),
  )

  learn_end : (o : Option Resynced) → p.learns ≡ o → (need_for (step_learn p b o) p b ≡ needs.Finished) ↔ IsFinished p b
  learn_end None h = due_end h (due_action b.queue) refl
  learn_end (Some told) h = (
    λ f. absurd (not_last p b steps.Learn (learn_has p b told h) f),
    λ f. let l : Some told ≡ None = sym h ∙ f.recorded in absurd (cc),
  )

-- nothing more is needed exactly where everything is recorded, settled and resynchronised
pub finished_need : (p : Player) (b : Meaning) → (need_of p b ≡ needs.Finished) ↔ IsFinished p b
finished_need p b = learn_end p b p.learns refl
