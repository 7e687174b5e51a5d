-- What a need records: an intent where none is pending, how the due action ends, what was told of a mailbox, or that a try is taken back.
use Rattle.action_queue.specs.Book.{Meaning}
use Rattle.action_queue.specs.Queues.{due_action, tries_due}
use Rattle.action_queue.specs.Targets.{resolved}
use Rattle.action_queue.specs.declared.action.Action.{Action}
use Rattle.action_queue.specs.declared.book.Known.{Known}
use Rattle.action_queue.specs.declared.event.Event.{Event}
use Rattle.action_queue.specs.declared.found.Found.{Found}
use Rattle.action_queue.specs.declared.intent.Intent.{Intent}
use Rattle.action_queue.specs.declared.outcome.Outcome.{Outcome}
use Rattle.action_queue.specs.declared.queued.Queued.{Queued}
use Rattle.append_probe.specs.declared.verdict.Verdict.{Verdict}
use Rattle.mailbox_cache.specs.declared.row.Row.{Row}
use Rattle.playback.proofs.Onward.{learns_need}
use Rattle.playback.proofs.Elsewhere.{elsewhere_any}
use Rattle.playback.proofs.Trying.{IsAgain, again_is}
use Rattle.playback.specs.Allowed.{Records}
use Rattle.playback.specs.Needs.{again, due_id, need_end, need_for, need_ids, need_learn, need_of, need_search}
use Rattle.playback.specs.Needs.{need_send, search_of, send_meant, send_of}
use Rattle.playback.specs.Steps.{above_at, append_again, append_in_box, append_judged, append_meant, append_open, conflict, flag_again, flag_judged}
use Rattle.playback.specs.Steps.{flag_meant, flag_open, in_box, is_selected, is_selected_at, move_again, move_meant, move_open}
use Rattle.playback.specs.Steps.{elsewhere, step_action, step_append, step_box, step_due, step_flag_found, step_learn, step_move_found}
use Rattle.playback.specs.Steps.{step_of}
use Rattle.playback.specs.declared.finding.Finding.{Finding}
use Rattle.playback.specs.declared.finding.Resynced.{Resynced}
use Rattle.playback.specs.declared.finding.Selected.{Selected}
use Rattle.playback.specs.declared.finding.Spot.{Spot}
use Rattle.playback.specs.declared.need.Need.{Need}
use Rattle.playback.specs.declared.player.Player.{Player}
use Rattle.playback.specs.declared.step.Step.{Step}
use Rattle.std.proofs.Common.{Bool, List, None, Option, Some, ap, cond, false, inl, inr, refl, subst, sym, true, ℕ}
use Rattle.std.proofs.Common.{◌∙◌, ◌≡◌, ◌⊎◌}
use Rattle.std.proofs.lemmas.Bool.{cond_both}
use Rattle.std.specs.Prelude.{slice_get, ◌==◌}
use Rattle.action_queue.specs.declared.action.Action.TheVariants as actions
use Rattle.action_queue.specs.declared.event.Event.TheVariants as events
use Rattle.playback.specs.declared.finding.Finding.TheVariants as findings
use Rattle.action_queue.specs.declared.found.Found.TheVariants as found
use Rattle.action_queue.specs.declared.intent.Intent.TheVariants as intents
use Rattle.action_queue.specs.declared.outcome.Kind.TheVariants as kinds
use Rattle.playback.specs.declared.step.Step.TheVariants as steps
use Rattle.append_probe.specs.declared.verdict.Verdict.TheVariants as verdicts

-- the step records no intent
abbrev NoIntend : Step → Type 0
NoIntend steps.Learn = Unit {0}
NoIntend (steps.Select name under) = Unit {0}
NoIntend (steps.AskRow uid) = Unit {0}
NoIntend (steps.Search uidnext) = Unit {0}
NoIntend steps.AskIds = Unit {0}
NoIntend (steps.Intend intent) = ⊥
NoIntend (steps.Settle outcome) = Unit {0}
NoIntend steps.Send = Unit {0}
NoIntend steps.Finished = Unit {0}

box_none : (selected : Option Selected) (meant : Bool) (spot : Spot) (step : Step) → NoIntend step → NoIntend (in_box selected meant spot step)
box_none selected meant spot step h =
    cond_both (is_selected selected spot) step (elsewhere meant (above_at selected spot.name spot.validity) spot.name spot.validity) NoIntend
    (λ t. h) (λ f. elsewhere_any NoIntend selected meant spot.name spot.validity tt (λ n a. tt))

judged_none : (mark modseq : ℕ) (so : Bool) → NoIntend (flag_judged mark modseq so)
judged_none mark modseq so =
    cond_both (modseq == mark) steps.Send (cond so (conflict kinds.FoundSo) (conflict (kinds.StoreUnsure mark modseq))) NoIntend (λ t. tt)
    (λ f. cond_both so (conflict kinds.FoundSo) (conflict (kinds.StoreUnsure mark modseq)) NoIntend (λ t. tt) (λ g. tt))

flag_open_none : (mark : ℕ) (told : Finding) (spot : Spot) → NoIntend (flag_open mark told spot)
flag_open_none mark findings.Nothing spot = tt
flag_open_none mark findings.NoRow spot = tt
flag_open_none mark (findings.Row modseq so) spot = judged_none mark modseq so
flag_open_none mark findings.Barred spot = tt
flag_open_none mark (findings.Ended outcome) spot = tt
flag_open_none mark (findings.Next validity uidnext) spot = tt
flag_open_none mark (findings.Candidates uids) spot = tt
flag_open_none mark (findings.Probed verdict) spot = tt

flag_again_none : (resumed : Bool) (mark : ℕ) (told : Finding) (spot : Spot) → NoIntend (flag_again resumed mark told spot)
flag_again_none false mark told spot = tt
flag_again_none true mark told spot = flag_open_none mark told spot

flag_box_none : (p : Player) (mark : ℕ) (spot : Spot) (told : Finding) →
    NoIntend (in_box p.selected true spot (flag_again p.resumed mark told spot))
flag_box_none p mark spot told = box_none p.selected true spot (flag_again p.resumed mark told spot) (flag_again_none p.resumed mark told spot)

flag_meant_none : (p : Player) (mark : ℕ) (spot : Spot) (told : Finding) → NoIntend (flag_meant p mark spot told)
flag_meant_none p mark spot findings.Nothing = flag_box_none p mark spot findings.Nothing
flag_meant_none p mark spot findings.NoRow = flag_box_none p mark spot findings.NoRow
flag_meant_none p mark spot (findings.Row modseq so) = flag_box_none p mark spot (findings.Row modseq so)
flag_meant_none p mark spot findings.Barred = flag_box_none p mark spot findings.Barred
flag_meant_none p mark spot (findings.Ended outcome) = tt
flag_meant_none p mark spot (findings.Next validity uidnext) = flag_box_none p mark spot (findings.Next validity uidnext)
flag_meant_none p mark spot (findings.Candidates uids) = flag_box_none p mark spot (findings.Candidates uids)
flag_meant_none p mark spot (findings.Probed verdict) = flag_box_none p mark spot (findings.Probed verdict)

flag_none : (p : Player) (place : Found) (pending : Intent) → NoIntend (step_flag_found p (Some pending) place)
flag_none p (found.Real box under number) (intents.Store name validity uid modseq) =
    flag_meant_none p modseq (record { name = box; validity = under; uid = number }) p.told
flag_none p (found.Real box under number) (intents.Shift from validity uid to) = tt
flag_none p (found.Real box under number) (intents.Put to validity uidnext) = tt
flag_none p (found.NotYet by) pending = tt
flag_none p (found.Never by) pending = tt

move_open_none : (told : Finding) (spot : Spot) → NoIntend (move_open told spot)
move_open_none findings.Nothing spot = tt
move_open_none findings.NoRow spot = tt
move_open_none (findings.Row modseq so) spot = tt
move_open_none findings.Barred spot = tt
move_open_none (findings.Ended outcome) spot = tt
move_open_none (findings.Next validity uidnext) spot = tt
move_open_none (findings.Candidates uids) spot = tt
move_open_none (findings.Probed verdict) spot = tt

move_again_none : (resumed : Bool) (told : Finding) (spot : Spot) → NoIntend (move_again resumed told spot)
move_again_none false told spot = tt
move_again_none true told spot = move_open_none told spot

move_box_none : (p : Player) (spot : Spot) (told : Finding) → NoIntend (in_box p.selected true spot (move_again p.resumed told spot))
move_box_none p spot told = box_none p.selected true spot (move_again p.resumed told spot) (move_again_none p.resumed told spot)

move_meant_none : (p : Player) (spot : Spot) (told : Finding) → NoIntend (move_meant p spot told)
move_meant_none p spot findings.Nothing = move_box_none p spot findings.Nothing
move_meant_none p spot findings.NoRow = move_box_none p spot findings.NoRow
move_meant_none p spot (findings.Row modseq so) = move_box_none p spot (findings.Row modseq so)
move_meant_none p spot findings.Barred = move_box_none p spot findings.Barred
move_meant_none p spot (findings.Ended outcome) = tt
move_meant_none p spot (findings.Next validity uidnext) = move_box_none p spot (findings.Next validity uidnext)
move_meant_none p spot (findings.Candidates uids) = move_box_none p spot (findings.Candidates uids)
move_meant_none p spot (findings.Probed verdict) = move_box_none p spot (findings.Probed verdict)

move_none : (p : Player) (to : List ℕ) (place : Found) (pending : Intent) → NoIntend (step_move_found p (Some pending) to place)
move_none p to (found.Real box under number) (intents.Store name validity uid modseq) = tt
move_none p to (found.Real box under number) (intents.Shift from validity uid other) =
    move_meant_none p (record { name = box; validity = under; uid = number }) p.told
move_none p to (found.Real box under number) (intents.Put other validity uidnext) = tt
move_none p to (found.NotYet by) pending = tt
move_none p to (found.Never by) pending = tt

append_judged_none : (verdict : Verdict) (validity : ℕ) → NoIntend (append_judged verdict validity)
append_judged_none verdicts.NotThere validity = tt
append_judged_none (verdicts.There uid) validity = tt
append_judged_none (verdicts.Several first second) validity = tt

append_open_none : (told : Finding) (to : List ℕ) (validity uidnext : ℕ) → NoIntend (append_open told to validity uidnext)
append_open_none findings.Nothing to validity uidnext = tt
append_open_none findings.NoRow to validity uidnext = tt
append_open_none (findings.Row modseq so) to validity uidnext = tt
append_open_none findings.Barred to validity uidnext = tt
append_open_none (findings.Ended outcome) to validity uidnext = tt
append_open_none (findings.Next told next) to validity uidnext = tt
append_open_none (findings.Candidates uids) to validity uidnext = tt
append_open_none (findings.Probed verdict) to validity uidnext = append_judged_none verdict validity

append_again_none : (resumed : Bool) (told : Finding) (to : List ℕ) (validity uidnext : ℕ) →
    NoIntend (append_again resumed told to validity uidnext)
append_again_none false told to validity uidnext = tt
append_again_none true told to validity uidnext = append_open_none told to validity uidnext

append_box_none : (p : Player) (to : List ℕ) (validity uidnext : ℕ) (told : Finding) → NoIntend (append_in_box p to validity uidnext told)
append_box_none p to validity uidnext told =
    cond_both (is_selected_at p.selected to validity) (append_again p.resumed told to validity uidnext)
    (elsewhere true (above_at p.selected to validity) to validity) NoIntend
    (λ t. append_again_none p.resumed told to validity uidnext) (λ f. elsewhere_any NoIntend p.selected true to validity tt (λ n a. tt))

append_meant_none : (p : Player) (to : List ℕ) (validity uidnext : ℕ) (told : Finding) → NoIntend (append_meant p to validity uidnext told)
append_meant_none p to validity uidnext findings.Nothing = append_box_none p to validity uidnext findings.Nothing
append_meant_none p to validity uidnext findings.NoRow = append_box_none p to validity uidnext findings.NoRow
append_meant_none p to validity uidnext (findings.Row modseq so) = append_box_none p to validity uidnext (findings.Row modseq so)
append_meant_none p to validity uidnext findings.Barred = append_box_none p to validity uidnext findings.Barred
append_meant_none p to validity uidnext (findings.Ended outcome) = tt
append_meant_none p to validity uidnext (findings.Next told next) = append_box_none p to validity uidnext (findings.Next told next)
append_meant_none p to validity uidnext (findings.Candidates uids) = append_box_none p to validity uidnext (findings.Candidates uids)
append_meant_none p to validity uidnext (findings.Probed verdict) = append_box_none p to validity uidnext (findings.Probed verdict)

append_none : (p : Player) (to : List ℕ) (pending : Intent) → NoIntend (step_append p (Some pending) to)
append_none p to (intents.Store name validity uid modseq) = tt
append_none p to (intents.Shift from validity uid other) = tt
append_none p to (intents.Put other validity uidnext) = append_meant_none p to validity uidnext p.told

-- so where an intent is to be recorded, none is pending
free_by : (step : Option Intent → Step) (intent : Intent) (pending : Option Intent) → ((x : Intent) → NoIntend (step (Some x))) →
    step pending ≡ steps.Intend intent → pending ≡ None
free_by step intent None some e = refl
free_by step intent (Some x) some e = absurd (subst NoIntend e (some x))

action_free : (p : Player) (b : Meaning) (action : Action) (intent : Intent) → step_action p b action ≡ steps.Intend intent →
    b.pending ≡ None
action_free p b (actions.Flag target add flags) intent e =
    free_by (λ o. step_flag_found p o (resolved b.queue target)) intent b.pending (flag_none p (resolved b.queue target)) e
action_free p b (actions.Move target to) intent e =
    free_by (λ o. step_move_found p o to (resolved b.queue target)) intent b.pending (move_none p to (resolved b.queue target)) e
action_free p b (actions.Append to flags text id) intent e = free_by (λ o. step_append p o to) intent b.pending (append_none p to) e

-- the step of a mailbox that is left
abbrev IsOfBox : Step → Type 0
IsOfBox steps.Learn = ⊥
IsOfBox (steps.Select name under) = Unit {0}
IsOfBox (steps.AskRow uid) = ⊥
IsOfBox (steps.Search uidnext) = ⊥
IsOfBox steps.AskIds = ⊥
IsOfBox (steps.Intend intent) = ⊥
IsOfBox (steps.Settle outcome) = ⊥
IsOfBox steps.Send = ⊥
IsOfBox steps.Finished = Unit {0}

is_of_box : (known : Option Known) → IsOfBox (step_box known)
is_of_box None = tt
is_of_box (Some known) = tt

due_free : (p : Player) (b : Meaning) (o : Option Queued) (intent : Intent) → step_due p b o ≡ steps.Intend intent → b.pending ≡ None
due_free p b None intent e = absurd (subst IsOfBox e (is_of_box (slice_get b.boxes p.resynced)))
due_free p b (Some q) intent e = action_free p b q.action intent e

pub due_there : (p : Player) (b : Meaning) (o : Option Queued) (outcome : Outcome) → step_due p b o ≡ steps.Settle outcome →
    (q : Queued) × (o ≡ Some q)
due_there p b None outcome e = absurd (subst IsOfBox e (is_of_box (slice_get b.boxes p.resynced)))
due_there p b (Some q) outcome e = (q, refl)

-- an intent is recorded, where none is pending
pub record RecordsIntent (p : Player) (b : Meaning) (event : Event) : Type 0 where
  pub none : p.learns ≡ None
  pub intent : Intent
  pub step : step_of p b ≡ steps.Intend intent
  pub is : event ≡ events.Intend (due_id b) intent
  pub free : b.pending ≡ None

-- how the action that is due ends
pub record RecordsOutcome (p : Player) (b : Meaning) (event : Event) : Type 0 where
  pub none : p.learns ≡ None
  pub outcome : Outcome
  pub queued : Queued
  pub there : due_action b.queue ≡ Some queued
  pub is : event ≡ events.Settle (due_id b) outcome

-- or what was told of a mailbox
pub record RecordsLearned (p : Player) (b : Meaning) (event : Event) : Type 0 where
  pub told : Resynced
  pub learns : p.learns ≡ Some told
  pub is : event ≡ events.Learn told.name told.delta

-- or that its try is taken back
pub record RecordsWithdrawal (p : Player) (b : Meaning) (event : Event) : Type 0 where
  pub none : p.learns ≡ None
  pub outcome : Outcome
  pub step : step_of p b ≡ steps.Settle outcome
  pub queued : Queued
  pub there : due_action b.queue ≡ Some queued
  pub next : ℕ
  pub again : IsAgain (tries_due b.queue) outcome next
  pub is : event ≡ events.Withdraw (due_id b) next

abbrev pub IsRecorded : Player → Meaning → Event → Type 0
IsRecorded p b event = RecordsIntent p b event ⊎ (RecordsOutcome p b event ⊎ (RecordsLearned p b event ⊎ RecordsWithdrawal p b event))

-- questions and commands record nothing
search_records : (uidnext : ℕ) (action : Action) (event : Event) → Records (search_of uidnext action) event → ⊥
search_records uidnext (actions.Flag target add flags) event r = r
search_records uidnext (actions.Move target to) event r = r
search_records uidnext (actions.Append to flags text id) event r = r

due_search_records : (uidnext : ℕ) (o : Option Queued) (event : Event) → Records (need_search uidnext o) event → ⊥
due_search_records uidnext None event r = r
due_search_records uidnext (Some q) event r = search_records uidnext q.action event r

ids_records : (told : Finding) (event : Event) → Records (need_ids told) event → ⊥
ids_records findings.Nothing event r = r
ids_records findings.NoRow event r = r
ids_records (findings.Row modseq so) event r = r
ids_records findings.Barred event r = r
ids_records (findings.Ended outcome) event r = r
ids_records (findings.Next validity uidnext) event r = r
ids_records (findings.Candidates uids) event r = r
ids_records (findings.Probed verdict) event r = r

send_records : (n : ℕ) (action : Action) (intent : Intent) (event : Event) → Records (send_of n action intent) event → ⊥
send_records n (actions.Flag target add flags) (intents.Store name validity uid modseq) event r = r
send_records n (actions.Flag target add flags) (intents.Shift from validity uid to) event r = r
send_records n (actions.Flag target add flags) (intents.Put to validity uidnext) event r = r
send_records n (actions.Move target to) (intents.Store name validity uid modseq) event r = r
send_records n (actions.Move target to) (intents.Shift from validity uid other) event r = r
send_records n (actions.Move target to) (intents.Put other validity uidnext) event r = r
send_records n (actions.Append to flags text id) (intents.Store name validity uid modseq) event r = r
send_records n (actions.Append to flags text id) (intents.Shift from validity uid other) event r = r
send_records n (actions.Append to flags text id) (intents.Put other validity uidnext) event r = r

meant_records : (n : ℕ) (action : Action) (pending : Option Intent) (event : Event) → Records (send_meant n action pending) event → ⊥
meant_records n action None event r = r
meant_records n action (Some intent) event r = send_records n action intent event r

due_send_records : (n : ℕ) (o : Option Queued) (pending : Option Intent) (event : Event) → Records (need_send n o pending) event → ⊥
due_send_records n None pending event r = r
due_send_records n (Some q) pending event r = meant_records n q.action pending event r

-- what a need records, by cases
module _ (p : Player) (b : Meaning) (event : Event) where
  due_step : p.learns ≡ None → (step : Step) → step_of p b ≡ step → step_due p b (due_action b.queue) ≡ step
  due_step l step e = sym (ap (λ (learns : Option Resynced). step_learn p b learns) l) ∙ e

  by_end : p.learns ≡ None → (outcome : Outcome) → step_of p b ≡ steps.Settle outcome → (q : Queued) → due_action b.queue ≡ Some q → (o : Option ℕ) →
      again (tries_due b.queue) outcome ≡ o → Records (need_end (due_id b) outcome o) event → IsRecorded p b event
  by_end l outcome e q there None last r = inr (inl (record { none = l; outcome = outcome; queued = q; there = there; is = r }))
  by_end l outcome e q there (Some next) more r = inr (inr (inr (record {
    none = l;
    outcome = outcome;
    step = e;
    queued = q;
    there = there;
    next = next;
    again = again_is (tries_due b.queue) outcome next more;
    is = r;
  })))

  by_step : p.learns ≡ None → (step : Step) → step_of p b ≡ step → Records (need_for step p b) event → IsRecorded p b event
  by_step l steps.Learn e r = absurd (subst (λ (learns : Option Resynced). Records (need_learn learns) event) l r)
  by_step l (steps.Select name under) e r = absurd r
  by_step l (steps.AskRow uid) e r = absurd r
  by_step l (steps.Search uidnext) e r = absurd (due_search_records uidnext (due_action b.queue) event r)
  by_step l steps.AskIds e r = absurd (ids_records p.told event r)
  by_step l (steps.Intend intent) e r = inl (record {
    none = l;
    intent = intent;
    step = e;
    is = r;
    free = due_free p b (due_action b.queue) intent (due_step l (steps.Intend intent) e);
  })
  by_step l (steps.Settle outcome) e r =
      let there : (q : Queued) × (due_action b.queue ≡ Some q) =
      due_there p b (due_action b.queue) outcome (due_step l (steps.Settle outcome) e) in
      by_end l outcome e there.0 there.1 (again (tries_due b.queue) outcome) refl r
  by_step l steps.Send e r = absurd (due_send_records (due_id b) (due_action b.queue) b.pending event r)
  by_step l steps.Finished e r = absurd r

  by_learns : (learns : Option Resynced) → p.learns ≡ learns → Records (need_of p b) event → IsRecorded p b event
  by_learns None l r = by_step l (step_of p b) refl r
  by_learns (Some told) l r =
      inr (inr (inl (record { told = told; learns = l; is = subst (λ (need : Need). Records need event) (learns_need p b told l) r })))

pub recorded : (p : Player) (b : Meaning) (event : Event) → Records (need_of p b) event → IsRecorded p b event
recorded p b event r = by_learns p b event p.learns refl r
