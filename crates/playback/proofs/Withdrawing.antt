-- Where a try is taken back, the mailbox of its message is selected still, and so the message's row is asked for anew.
use Rattle.action_queue.proofs.Queueing.{due_tried}
use Rattle.action_queue.specs.Book.{Meaning, after}
use Rattle.action_queue.specs.Queues.{change_first, due_action, tried, tries_due}
use Rattle.action_queue.specs.Rules.{is_no_flag, is_no_flag_of}
use Rattle.action_queue.specs.Targets.{resolved}
use Rattle.action_queue.specs.declared.action.Action.{Action}
use Rattle.action_queue.specs.declared.found.Found.{Found}
use Rattle.action_queue.specs.declared.intent.Intent.{Intent}
use Rattle.action_queue.specs.declared.outcome.Kind.{Kind}
use Rattle.action_queue.specs.declared.outcome.Outcome.{Outcome}
use Rattle.action_queue.specs.declared.outcome.Place.{Place}
use Rattle.action_queue.specs.declared.queued.Queued.{Queued}
use Rattle.action_queue.specs.declared.target.Target.{Target}
use Rattle.playback.proofs.Endings.{suited_is}
use Rattle.book_laws.proofs.Lawful.{withdraw_flag}
use Rattle.book_laws.proofs.Queueing.{Suited, grows_try, resolved_stays}
use Rattle.playback.proofs.Ranks.{append_first_by, append_meant_by, below_boxed, box_any, boxed, flag_first_by, flag_meant_by, move_first_by, move_meant_by}
use Rattle.playback.proofs.Recorded.{due_there}
use Rattle.playback.proofs.Trying.{IsAgain, again_is}
use Rattle.playback.specs.Left.{rank}
use Rattle.playback.specs.Needs.{IsBeside, IsPlaced, IsReadyEvent, MayEnd, again, again_as, due_id, end_of}
use Rattle.book_laws.specs.Sound.{IsSound}
use Rattle.playback.specs.Steps.{conflict, flag_first, move_first, is_selected, is_selected_at, renewed_as, step_action, step_append, step_due, step_flag_at, step_flag_found, step_learn}
use Rattle.playback.specs.Steps.{step_move_at, step_move_found, step_of}
use Rattle.playback.specs.declared.finding.Finding.{Finding}
use Rattle.playback.specs.declared.finding.Resynced.{Resynced}
use Rattle.playback.specs.declared.finding.Selected.{Selected}
use Rattle.playback.specs.declared.finding.Spot.{Spot}
use Rattle.playback.specs.declared.player.Player.{Player}
use Rattle.playback.specs.declared.step.Step.{Step}
use Rattle.std.proofs.Common.{Bool, List, None, Option, Some, ap, arith, false, refl, subst, sym, true, ℕ, ◌<◌, ◌∙◌, ◌≡◌}
use Rattle.std.specs.Prelude.{slice_get}
use Rattle.action_queue.specs.declared.action.Action.TheVariants as actions
use Rattle.action_queue.specs.declared.event.Event.TheVariants as events
use Rattle.playback.specs.declared.finding.Finding.TheVariants as findings
use Rattle.action_queue.specs.declared.found.Found.TheVariants as found
use Rattle.action_queue.specs.declared.intent.Intent.TheVariants as intents
use Rattle.action_queue.specs.declared.outcome.Kind.TheVariants as kinds
use Rattle.action_queue.specs.declared.outcome.Outcome.TheVariants as outcomes
use Rattle.playback.specs.declared.step.Step.TheVariants as steps

-- a try ends because another changed the message only where a reply told so, to the command of the pending intent
pub record IsEndedNow (p : Player) (b : Meaning) (m : ℕ) : Type 0 where
  pub told : p.told ≡ findings.Ended (outcomes.Conflict (kinds.FlagsChanged m))
  pub intent : Intent
  pub pending : b.pending ≡ Some intent

module _ (p : Player) (b : Meaning) (m : ℕ) where
  abbrev Ends : Step → Type 0
  Ends step = step ≡ conflict (kinds.FlagsChanged m) → IsEndedNow p b m

  no_kind : (kind : Kind) → again_as 0 kind ≡ None → Ends (conflict kind)
  no_kind kind e is = let same : kind ≡ kinds.FlagsChanged m = cc in let none : again_as 0 (kinds.FlagsChanged m) ≡ None = sym (ap (again_as 0) same) ∙ e in absurd (cc)

  no_place : (place : Option Place) → Ends (steps.Settle (outcomes.Done place))
  no_place place e = absurd (cc)

  ends_now : (intent : Intent) → b.pending ≡ Some intent → (outcome : Outcome) → p.told ≡ findings.Ended outcome → Ends (steps.Settle outcome)
  ends_now intent pending outcome told e =
      let same : outcome ≡ outcomes.Conflict (kinds.FlagsChanged m) = cc in
      record { told = told ∙ ap (λ (x : Outcome). findings.Ended x) same; intent = intent; pending = pending }

  renewed_apart : (meant : Bool) (spot : Spot) (n : ℕ) → Ends (conflict (renewed_as meant spot.validity n))
  renewed_apart true spot n e = absurd (cc)
  renewed_apart false spot n e = absurd (cc)

  flag_ended : (pending : Option Intent) → b.pending ≡ pending → (spot : Spot) → Ends (step_flag_at p pending spot)
  flag_ended None h spot =
      boxed Ends p.selected false spot (flag_first p.told spot)
      (λ t. flag_first_by Ends no_kind no_place spot (λ e. absurd (cc)) (λ modseq e. absurd (cc)) p.told) (λ f e. absurd (cc)) (renewed_apart false spot)
  flag_ended (Some (intents.Store name validity uid mark)) h spot =
      flag_meant_by Ends no_kind no_place p mark spot (λ f e. absurd (cc)) (λ t e. absurd (cc)) (λ t e. absurd (cc)) p.told
      (λ outcome told. ends_now (intents.Store name validity uid mark) h outcome told)
  flag_ended (Some (intents.Shift from validity uid to)) h spot = λ e. absurd (cc)
  flag_ended (Some (intents.Put to validity uidnext)) h spot = λ e. absurd (cc)

  flag_found_ended : (place : Found) → Ends (step_flag_found p b.pending place)
  flag_found_ended (found.Real name validity uid) = flag_ended b.pending refl (record { name = name; validity = validity; uid = uid })
  flag_found_ended (found.NotYet by) = no_kind (kinds.TargetUnknown by) refl
  flag_found_ended (found.Never by) = no_kind (kinds.TargetUnknown by) refl

  move_ended : (pending : Option Intent) → b.pending ≡ pending → (spot : Spot) (to : List ℕ) → Ends (step_move_at p pending spot to)
  move_ended None h spot to =
      boxed Ends p.selected false spot (move_first p.told spot to)
      (λ t. move_first_by Ends no_kind no_place spot to (λ e. absurd (cc)) (λ e. absurd (cc)) p.told) (λ f e. absurd (cc)) (renewed_apart false spot)
  move_ended (Some (intents.Shift from validity uid other)) h spot to =
      move_meant_by Ends no_kind no_place p spot (λ f e. absurd (cc)) (λ t e. absurd (cc)) (λ t e. absurd (cc)) p.told
      (λ outcome told. ends_now (intents.Shift from validity uid other) h outcome told)
  move_ended (Some (intents.Store name validity uid mark)) h spot to = λ e. absurd (cc)
  move_ended (Some (intents.Put other validity uidnext)) h spot to = λ e. absurd (cc)

  move_found_ended : (to : List ℕ) (place : Found) → Ends (step_move_found p b.pending to place)
  move_found_ended to (found.Real name validity uid) = move_ended b.pending refl (record { name = name; validity = validity; uid = uid }) to
  move_found_ended to (found.NotYet by) = no_kind (kinds.TargetUnknown by) refl
  move_found_ended to (found.Never by) = no_kind (kinds.TargetUnknown by) refl

  append_ended : (pending : Option Intent) → b.pending ≡ pending → (to : List ℕ) → Ends (step_append p pending to)
  append_ended None h to =
      append_first_by Ends no_kind no_place p.selected to (λ e. absurd (cc)) (λ validity uidnext t e. absurd (cc)) p.told
  append_ended (Some (intents.Put other validity uidnext)) h to =
      append_meant_by Ends no_kind no_place to validity uidnext (λ e. absurd (cc)) p (λ t e. absurd (cc)) (λ t e. absurd (cc)) p.told
      (λ uids told t e. absurd (cc)) (λ outcome told. ends_now (intents.Put other validity uidnext) h outcome told)
  append_ended (Some (intents.Store name validity uid mark)) h to = λ e. absurd (cc)
  append_ended (Some (intents.Shift from validity uid other)) h to = λ e. absurd (cc)

  action_ended : (action : Action) → Ends (step_action p b action)
  action_ended (actions.Flag target add flags) = flag_found_ended (resolved b.queue target)
  action_ended (actions.Move target to) = move_found_ended to (resolved b.queue target)
  action_ended (actions.Append to flags text id) = append_ended b.pending refl to

  due_ended : (o : Option Queued) → Ends (step_due p b o)
  due_ended None = box_any Ends (λ e. absurd (cc)) (λ name e. absurd (cc)) (slice_get b.boxes p.resynced)
  due_ended (Some q) = action_ended q.action

  learn_ended : (learns : Option Resynced) → Ends (step_learn p b learns)
  learn_ended None = due_ended (due_action b.queue)
  learn_ended (Some told) = λ e. absurd (cc)

-- the action that is due is a flag action, whose message's mailbox is selected
pub record IsWithdrawn (p : Player) (b : Meaning) (next : ℕ) : Type 0 where
  pub none : p.learns ≡ None
  pub outcome : Outcome
  pub again : IsAgain (tries_due b.queue) outcome next
  pub queued : Queued
  pub there : due_action b.queue ≡ Some queued
  pub target : Target
  pub add : Bool
  pub flags : List (List ℕ)
  pub action : queued.action ≡ actions.Flag target add flags
  pub name : List ℕ
  pub validity : ℕ
  pub uid : ℕ
  pub real : resolved b.queue target ≡ found.Real name validity uid
  pub selected : is_selected_at p.selected name validity ≡ true

module _ (p : Player) (b : Meaning) (sound : IsSound b) (beside : IsBeside p b) (outcome : Outcome) (next : ℕ)
    (more : again (tries_due b.queue) outcome ≡ Some next) (none : p.learns ≡ None) (step : step_of p b ≡ steps.Settle outcome) where
  a : IsAgain (tries_due b.queue) outcome next
  a = again_is (tries_due b.queue) outcome next more

  by_kinds : (q : Queued) → due_action b.queue ≡ Some q → (action : Action) → q.action ≡ action → (intent : Intent) → is_no_flag_of action ≡ false →
      Suited b.queue action intent → IsPlaced intent p → IsWithdrawn p b next
  by_kinds q there (actions.Flag target add flags) is (intents.Store name validity uid mark) flag suited placed = record {
    none = none;
    outcome = outcome;
    again = a;
    queued = q;
    there = there;
    target = target;
    add = add;
    flags = flags;
    action = is;
    name = name;
    validity = validity;
    uid = uid;
    real = suited;
    selected = placed;
  }
  by_kinds q there (actions.Flag target add flags) is (intents.Shift from validity uid to) flag suited placed = absurd suited
  by_kinds q there (actions.Flag target add flags) is (intents.Put to validity uidnext) flag suited placed = absurd suited
  by_kinds q there (actions.Move target to) is intent flag suited placed = absurd (cc)
  by_kinds q there (actions.Append to flags text id) is intent flag suited placed = absurd (cc)

  pub withdrawn : IsWithdrawn p b next
  withdrawn =
      let ended : IsEndedNow p b a.mark = learn_ended p b a.mark p.learns (step ∙ ap (λ (x : Outcome). steps.Settle x) a.is) in
      let q : (q : Queued) × (due_action b.queue ≡ Some q) =
      due_there p b (due_action b.queue) outcome (sym (ap (λ (learns : Option Resynced). step_learn p b learns) none) ∙ step) in
      let ready : IsReadyEvent b (events.Withdraw (due_id b) next) =
      subst (λ (o : Option ℕ). IsReadyEvent b (end_of (due_id b) (outcomes.Conflict (kinds.FlagsChanged a.mark)) o))
      (sym (ap (again (tries_due b.queue)) a.is) ∙ more) (subst (λ (f : Finding). MayEnd f b) ended.told beside.ends) in
      let flag : is_no_flag_of q.0.action ≡ false = sym (ap is_no_flag q.1) ∙ withdraw_flag b (due_id b) next ready.lawful in
      by_kinds q.0 q.1 q.0.action refl ended.intent flag (suited_is b sound q.0 q.1 ended.intent ended.pending)
      (beside.placed (outcomes.Conflict (kinds.FlagsChanged a.mark)) ended.told ended.intent ended.pending)

-- Behind the record the row is asked for, in the mailbox that is selected still.
module _ (p : Player) (b : Meaning) (next : ℕ) (x : IsWithdrawn p b next) (r : Player) (same : r.selected ≡ p.selected)
    (nothing : r.told ≡ findings.Nothing) (free : r.learns ≡ None) where
  abbrev New : Meaning
  New = after b (events.Withdraw (due_id b) next)

  abbrev Of : Spot
  Of = record { name = x.name; validity = x.validity; uid = x.uid }

  there : is_selected r.selected Of ≡ true
  there = subst (λ (s : Option Selected). is_selected s Of ≡ true) (sym same) x.selected

  low : rank (flag_first r.told Of) < 5
  low = subst (λ (f : Finding). rank (flag_first f Of) < 5) (sym nothing) (omega arith)

  pub asks_anew : rank (step_of r New) < 5
  asks_anew =
      subst (λ (l : Option Resynced). rank (step_learn r New l) < 5) (sym free)
      (subst (λ (o : Option Queued). rank (step_due r New o) < 5) (sym (due_tried next b.queue x.queued x.there))
      (subst (λ (y : Action). rank (step_action r New y) < 5) (sym x.action)
      (subst (λ (f : Found). rank (step_flag_found r None f) < 5)
      (sym (resolved_stays b.queue (change_first (tried next) b.queue) x.target x.name x.validity x.uid (grows_try next b.queue) x.real))
      (below_boxed 5 r.selected false Of (flag_first r.told Of) there low))))
