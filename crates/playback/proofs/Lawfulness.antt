-- What the player needs can be done, and what is recorded may come next in the book.
use Rattle.std.proofs.Common.{◌≡◌, inl, inr, ℕ, suc, zero, ◌+◌, arith, Bool, true, false, cond, eqb, not, ◌&&◌, ◌||◌, List, [], ◌∷◌, Option}
use Rattle.std.proofs.Common.{Some, None, Result, Ok, Err, refl, sym, ◌∙◌, ap, subst}
use Rattle.std.specs.Option.{is_none, is_some}
use Rattle.std.specs.Prelude.{IfOk, bytes_eq, nat_lt, slice_get, ◌<◌, ◌≤◌, ◌==◌}
use Rattle.std.specs.declared.alloc.AllocError.{AllocError}
use Rattle.std.proofs.lemmas.Bool.{and_from, cond_both, cond-false, cond-true, eq-eqb, lt-ltb, ltb-true}
use Rattle.std.proofs.lemmas.Option.{same_Some}
use Rattle.imap_model.specs.declared.code.Code.{Code}
use Rattle.imap_model.specs.declared.code.Code.TheVariants as codings
use Rattle.imap_model.specs.declared.ending.Ending.{Ending}
use Rattle.imap_model.specs.declared.ending.Ending.TheVariants as endings
use Rattle.imap_model.specs.declared.item.Item.{Item}
use Rattle.imap_model.specs.declared.replies.Replies.{Replies}
use Rattle.imap_model.specs.declared.response.Response.{Response}
use Rattle.imap_model.proofs.Finding.{names_same}
use Rattle.mail_header.specs.Identifier.{HasMessageId}
use Rattle.imap_model.specs.Mutating.{is_mutating}
use Rattle.imap_model.specs.declared.command.Command.{Command}
use Rattle.imap_model.specs.declared.command.Command.TheVariants as commands
use Rattle.action_queue.specs.Book.{Meaning, known_at}
use Rattle.action_queue.specs.Writable.{IsWritableAction}
use Rattle.append_probe.specs.Laws.{PartsAreParts}
use Rattle.playback.proofs.Elsewhere.{elsewhere_any}
use Rattle.playback.specs.Steps.{above_at, elsewhere, renewed_as}
use Rattle.action_queue.specs.Rules.{is_found_under, is_no_flag, is_no_flag_of, is_no_turn, is_wrong_tries, is_wrong_turn, names_validity, intent_validity}
use Rattle.playback.proofs.Trying.{end_lawful, end_plain, ends_plain, first_or_second, not_early}
use Rattle.playback.specs.declared.finding.Selected.{Selected}
use Rattle.action_queue.specs.Queues.{due, due_action, tries_due, tries_of}
use Rattle.action_queue.specs.Rules.{comes_before_intent, fits, follows_intent, is_early, is_misfit, is_misfit_of, is_misplaced, is_misplaced_of}
use Rattle.action_queue.specs.Rules.{is_unknown, is_unknown_action, is_unknown_intent, is_unknown_target, is_unsuited, names_mark}
use Rattle.action_queue.specs.Rules.{rests_on_intent, suits}
use Rattle.action_queue.specs.Targets.{resolved}
use Rattle.action_queue.specs.declared.action.Action.{Action}
use Rattle.action_queue.specs.declared.action.Action.TheVariants as actions
use Rattle.action_queue.specs.declared.book.Known.{Known}
use Rattle.action_queue.specs.declared.event.Event.TheVariants as events
use Rattle.action_queue.specs.declared.found.Found.{Found}
use Rattle.action_queue.specs.declared.found.Found.TheVariants as found
use Rattle.action_queue.specs.declared.intent.Intent.{Intent}
use Rattle.action_queue.specs.declared.intent.Intent.TheVariants as intents
use Rattle.action_queue.specs.declared.outcome.Kind.{Kind}
use Rattle.action_queue.specs.declared.outcome.Kind.TheVariants as kinds
use Rattle.action_queue.specs.declared.outcome.Outcome.{Outcome}
use Rattle.action_queue.specs.declared.outcome.Outcome.TheVariants as outcomes
use Rattle.action_queue.specs.declared.queued.Queued.{Queued}
use Rattle.action_queue.specs.declared.rule.Rule.{Rule}
use Rattle.action_queue.specs.declared.rule.Version.TheVariants.{Second}
use Rattle.action_queue.specs.declared.target.Target.{Target}
use Rattle.append_probe.specs.declared.verdict.Verdict.{Verdict}
use Rattle.append_probe.specs.declared.verdict.Verdict.TheVariants as verdicts
use Rattle.playback.specs.Needs.{IsBeside, IsKnown, IsLawfulNeed, IsReadyEvent, MayEnd, MayRecord, again, again_as, due_id, end_due, end_of, need_for, need_ids, need_learn}
use Rattle.playback.specs.Needs.{need_of, need_search, need_send, search_of, send_meant, send_of}
use Rattle.playback.specs.Replying.{ended, flag_gone, last_copied, last_fetch, move_gone, names_modified, names_uid, one_of, place_if}
use Rattle.playback.specs.Replying.{read_append_by, read_appended, read_copied, read_move_by, read_moved, read_sent, read_store}
use Rattle.playback.specs.Replying.{read_stored}
use Rattle.book_laws.specs.Resolved.{Resolves}
use Rattle.book_laws.specs.Sound.{IsSound}
use Rattle.playback.specs.Steps.{append_again, append_first, append_in_box, append_judged, append_meant, append_new, append_open, conflict}
use Rattle.playback.specs.Steps.{flag_again, flag_first, flag_judged, flag_meant, flag_new, flag_open, in_box, is_selected, is_selected_at}
use Rattle.playback.specs.Steps.{move_again, move_first, move_meant, move_open, select_any, step_action}
use Rattle.playback.specs.Steps.{step_append, step_box, step_due, step_flag_at, step_flag_found, step_learn, step_move_at, step_move_found}
use Rattle.playback.specs.declared.finding.Finding.{Finding}
use Rattle.playback.specs.declared.finding.Finding.TheVariants as findings
use Rattle.playback.specs.declared.finding.Resynced.{Resynced}
use Rattle.playback.specs.declared.finding.Spot.{Spot}
use Rattle.playback.specs.declared.need.Need.{Need}
use Rattle.playback.specs.declared.need.Need.TheVariants as needs
use Rattle.playback.specs.declared.player.Player.{Player}
use Rattle.playback.specs.declared.step.Step.{Step}
use Rattle.playback.specs.declared.step.Step.TheVariants as steps
use Rattle.playback.proofs.Endings.{is_never_of, no_flag, no_move, suited_is}
use Rattle.book_laws.proofs.Making.{or_both}
use Rattle.book_laws.proofs.Queueing.{Suited, is_there}
use Rattle.book_laws.proofs.Resolving.{of_flag, of_move}
use Rattle.playback.proofs.RowFacts.{spot_at}

-- a rule that isn't broken
skip : (t : Bool) (r : Rule) (o : Option Rule) → t ≡ false → o ≡ None → cond t (Some r) o ≡ None
skip t r o f e = cond-false t (Some r) o f ∙ e

none_and : (x y : Bool) → y ≡ false → (x && y) ≡ false
none_and true y f = f
none_and false y f = refl

neither_or : (x y : Bool) → x ≡ false → y ≡ false → (x || y) ≡ false
neither_or true y s t = absurd (cc)
neither_or false y s t = t

-- an event of the action that is due
module _ (b : Meaning) (q : Queued) (e : due_action b.queue ≡ Some q) where
  is_number : not (eqb (due_id b) (due b.queue + 1)) ≡ false
  is_number = ap not (eq-eqb (due_id b) (due b.queue + 1) (omega arith))

  intend_ready : (intent : Intent) → b.pending ≡ None → is_unknown_intent b.boxes intent ≡ false → suits b.queue q.action intent ≡ true →
      IsReadyEvent b (events.Intend (due_id b) intent)
  intend_ready intent free known suited = record {
    lawful = record {
      version = Second;
      unbroken =
          skip (is_unknown_intent b.boxes intent) _ _ known
          (skip (is_some b.pending) _ _ (ap (λ (o : Option Intent). is_some o) free)
          (skip (is_none (due_action b.queue)) _ _ (ap (λ (o : Option Queued). is_none o) e)
          (skip (not (eqb (due_id b) (due b.queue + 1))) _ _ is_number
          (skip (is_unsuited b.queue (due_action b.queue) intent) _ _
          (ap (λ (o : Option Queued). is_unsuited b.queue o intent) e ∙ ap not suited) refl))));
    };
    second = refl;
    writable = tt;
  }

  settle_ready : q.tries ≤ 2 → (outcome : Outcome) → again (tries_due b.queue) outcome ≡ None → (is_none b.pending && rests_on_intent outcome) ≡ false →
      (is_some b.pending && comes_before_intent outcome) ≡ false →
      is_misplaced_of q.action outcome ≡ false → is_misfit_of b q.action outcome ≡ false → IsReadyEvent b (events.Settle (due_id b) outcome)
  settle_ready few outcome last needs_it before placed fit = record {
    lawful = record {
      version = Second;
      unbroken =
          skip (is_none (due_action b.queue)) _ _ (ap (λ (o : Option Queued). is_none o) e)
          (skip (not (eqb (due_id b) (due b.queue + 1))) _ _ is_number
          (skip (is_none b.pending && rests_on_intent outcome) _ _ needs_it
          (skip (is_some b.pending && comes_before_intent outcome) _ _ before
          (skip (is_misplaced (due_action b.queue) outcome) _ _ (ap (λ (o : Option Queued). is_misplaced o outcome) e ∙ placed)
          (skip (is_misfit b (due_action b.queue) outcome || is_early Second (due_action b.queue) outcome) _ _
          (neither_or (is_misfit b (due_action b.queue) outcome) (is_early Second (due_action b.queue) outcome)
          (ap (λ (o : Option Queued). is_misfit b o outcome) e ∙ fit)
          (ap (λ (o : Option Queued). is_early Second o outcome) e
          ∙ not_early q.tries outcome few (sym (ap (λ (o : Option Queued). again (tries_of o) outcome) e) ∙ last))) refl)))));
    };
    second = refl;
    writable = tt;
  }

  -- the try of a flag action is taken back
  withdraw_ready : (intent : Intent) → b.pending ≡ Some intent → is_no_flag_of q.action ≡ false → tries_due b.queue < 2 →
      IsReadyEvent b (events.Withdraw (due_id b) (tries_due b.queue + 1))
  withdraw_ready intent pending flag fewer = record {
    lawful = record {
      version = Second;
      unbroken =
          skip (is_none (due_action b.queue)) _ _ (ap (λ (o : Option Queued). is_none o) e)
          (skip (not (eqb (due_id b) (due b.queue + 1))) _ _ is_number
          (skip (is_no_flag (due_action b.queue)) _ _ (ap is_no_flag e ∙ flag)
          (skip (is_wrong_tries Second b (tries_due b.queue + 1)) _ _
          (ap (λ (o : Option Queued). is_wrong_turn o b.pending (tries_due b.queue + 1)) e
          ∙ neither_or (not (tries_due b.queue + 1 == 1 || tries_due b.queue + 1 == 2)) (is_no_turn b.pending q.tries (tries_due b.queue + 1))
          (first_or_second (tries_due b.queue) fewer)
          (ap (λ (o : Option Intent). is_no_turn o q.tries (tries_due b.queue + 1)) pending
          ∙ ap not (eq-eqb (tries_due b.queue + 1) (q.tries + 1) (ap (λ (o : Option Queued). tries_of o + 1) e)))) refl)));
    };
    second = refl;
    writable = tt;
  }

  -- a conflict without an intent
  free_ready : q.tries ≤ 2 → b.pending ≡ None → (kind : Kind) → again_as (tries_due b.queue) kind ≡ None → follows_intent kind ≡ false → fits b q.action kind ≡ true →
      IsReadyEvent b (events.Settle (due_id b) (outcomes.Conflict kind))
  free_ready few free kind last first fit =
      settle_ready few (outcomes.Conflict kind) last (none_and (is_none b.pending) (follows_intent kind) first)
      (ap (λ (o : Option Intent). is_some o && comes_before_intent (outcomes.Conflict kind)) free) refl (ap not fit)

  -- an outcome with an intent
  meant_ready : q.tries ≤ 2 → (intent : Intent) → b.pending ≡ Some intent → (outcome : Outcome) → again (tries_due b.queue) outcome ≡ None →
      comes_before_intent outcome ≡ false →
      is_misplaced_of q.action outcome ≡ false → is_misfit_of b q.action outcome ≡ false → IsReadyEvent b (events.Settle (due_id b) outcome)
  meant_ready few intent pending outcome last later placed fit =
      settle_ready few outcome last (ap (λ (o : Option Intent). is_none o && rests_on_intent outcome) pending)
      (none_and (is_some b.pending) (comes_before_intent outcome) later) placed fit

-- what a target resolves to has one UIDVALIDITY
one_validity : (f : Found) (spot : Spot) (name : List ℕ) (validity uid : ℕ) → f ≡ found.Real spot.name spot.validity spot.uid →
    f ≡ found.Real name validity uid → validity ≡ spot.validity
one_validity f spot name validity uid e g =
    let is : found.Real spot.name spot.validity spot.uid ≡ found.Real name validity uid = sym e ∙ g in cc

-- the step's need can be done
abbrev IsLawfulStep : Player → Meaning → Step → Type 0
IsLawfulStep p b step = IsLawfulNeed (need_for step p b) p b

-- something is selected
selected_some : (selected : Option Selected) (name : List ℕ) (validity : ℕ) → is_selected_at selected name validity ≡ true →
    is_some selected ≡ true
selected_some None name validity = λ t. absurd (cc)
selected_some (Some sel) name validity = λ t. refl

-- the action that is due
module _ (p : Player) (b : Meaning) (sound : IsSound b) (q : Queued) (e : due_action b.queue ≡ Some q) where
  few : q.tries ≤ 2
  few = sound.tries (due b.queue) q e

  boxed_may : (meant : Bool) (spot : Spot) (step : Step) → IsKnown spot.name b → (is_some p.selected ≡ true → IsLawfulStep p b step) →
      ((n : ℕ) → spot.validity < n → IsLawfulStep p b (conflict (renewed_as meant spot.validity n))) →
      IsLawfulStep p b (in_box p.selected meant spot step)
  boxed_may meant spot step known h above =
      cond_both (is_selected p.selected spot) step (elsewhere meant (above_at p.selected spot.name spot.validity) spot.name spot.validity)
      (λ (s : Step). IsLawfulStep p b s) (λ t. h (selected_some p.selected spot.name spot.validity t))
      (λ f. elsewhere_any (λ (s : Step). IsLawfulStep p b s) p.selected meant spot.name spot.validity known (λ n a. above n a.above))

  -- the numbers of a mailbox that was renewed
  found_fits : (f : Found) (name : List ℕ) (v uid n : ℕ) → f ≡ found.Real name v uid → v < n → (is_found_under f v && nat_lt v n) ≡ true
  found_fits f name v uid n is l =
      and_from (is_found_under f v) (nat_lt v n) (ap (λ (x : Found). is_found_under x v) is ∙ eq-eqb v v refl) (lt-ltb v n l)

  intent_fits : (intent : Intent) → b.pending ≡ Some intent → (v n : ℕ) → intent_validity intent ≡ v → v < n →
      (names_validity b.pending v && nat_lt v n) ≡ true
  intent_fits intent pending v n is l =
      and_from (names_validity b.pending v) (nat_lt v n)
      (ap (λ (o : Option Intent). names_validity o v) pending ∙ eq-eqb (intent_validity intent) v is) (lt-ltb v n l)

  knows_boxes : is_unknown_action b.boxes q.action ≡ false
  knows_boxes = sound.boxes (due b.queue) q e

  -- a command is sent
  send_may : (intent : Intent) → b.pending ≡ Some intent → (command : Command) → is_mutating command ≡ true →
      send_of (due_id b) q.action intent ≡ needs.Send (due_id b) command → is_some p.selected ≡ true → IsLawfulStep p b steps.Send
  send_may intent pending command changes sent selected =
      let need : need_send (due_id b) (due_action b.queue) b.pending ≡ needs.Send (due_id b) command =
      ap (λ (o : Option Queued). need_send (due_id b) o b.pending) e ∙ ap (λ (o : Option Intent). send_meant (due_id b) q.action o) pending
      ∙ sent in
      subst (λ (x : Need). IsLawfulNeed x p b) (sym need) (refl, changes, selected)

  -- no intent is pending for an action whose message never comes
  never_free : ((intent : Intent) → Suited b.queue q.action intent → ⊥) → (pending : Option Intent) → b.pending ≡ pending → b.pending ≡ None
  never_free f None h = h
  never_free f (Some intent) h = absurd (f intent (suited_is b sound q e intent h))

  -- a flag action
  module _ (target : Target) (add : Bool) (asked : List (List ℕ)) (a : q.action ≡ actions.Flag target add asked) where
    flag_free : b.pending ≡ None → (kind : Kind) → again_as (tries_due b.queue) kind ≡ None → follows_intent kind ≡ false → fits b (actions.Flag target add asked) kind ≡ true →
        IsLawfulStep p b (conflict kind)
    flag_free free kind last first fit =
        ends_plain p b (outcomes.Conflict kind) last (free_ready b q e few free kind last first (subst (λ (x : Action). fits b x kind ≡ true) (sym a) fit))

    flag_later : (intent : Intent) → b.pending ≡ Some intent → (kind : Kind) → again_as (tries_due b.queue) kind ≡ None → comes_before_intent (outcomes.Conflict kind) ≡ false →
        fits b (actions.Flag target add asked) kind ≡ true → IsReadyEvent b (events.Settle (due_id b) (outcomes.Conflict kind))
    flag_later intent pending kind last later fit =
        meant_ready b q e few intent pending (outcomes.Conflict kind) last later refl
        (ap not (subst (λ (x : Action). fits b x kind ≡ true) (sym a) fit))

    module _ (spot : Spot) (known : IsKnown spot.name b) where
      module _ (is : resolved b.queue target ≡ found.Real spot.name spot.validity spot.uid) (free : b.pending ≡ None) where
        flag_new_may : (modseq : ℕ) (so : Bool) → IsLawfulStep p b (flag_new modseq so spot)
        flag_new_may modseq true = flag_free free kinds.AlreadySo refl refl refl
        flag_new_may modseq false =
            intend_ready b q e (intents.Store spot.name spot.validity spot.uid modseq) free known
            (subst (λ (x : Action). suits b.queue x (intents.Store spot.name spot.validity spot.uid modseq) ≡ true) (sym a)
            (is_there (resolved b.queue target) spot.name spot.validity spot.uid is))

        flag_first_may : (told : Finding) → is_some p.selected ≡ true → IsLawfulStep p b (flag_first told spot)
        flag_first_may findings.Nothing t = (tt, t)
        flag_first_may findings.NoRow t = flag_free free kinds.MessageGone refl refl refl
        flag_first_may (findings.Row modseq so) t = flag_new_may modseq so
        flag_first_may findings.Barred t = flag_free free kinds.NotPermanent refl refl refl
        flag_first_may (findings.Ended outcome) t = (tt, t)
        flag_first_may (findings.Next validity uidnext) t = (tt, t)
        flag_first_may (findings.Candidates uids) t = (tt, t)
        flag_first_may (findings.Probed verdict) t = (tt, t)

      module _ (name : List ℕ) (validity uid mark : ℕ) (pending : b.pending ≡ Some (intents.Store name validity uid mark))
          (under : validity ≡ spot.validity) where
        flag_send_may : is_some p.selected ≡ true → IsLawfulStep p b steps.Send
        flag_send_may =
            send_may (intents.Store name validity uid mark) pending (commands.Store uid mark add asked) refl
            (ap (λ (x : Action). send_of (due_id b) x (intents.Store name validity uid mark)) a)

        names_it : names_mark b.pending mark ≡ true
        names_it = ap (λ (o : Option Intent). names_mark o mark) pending ∙ eq-eqb mark mark refl

        unsure_may : (modseq : ℕ) (so : Bool) →
            IsLawfulStep p b (cond so (conflict kinds.FoundSo) (conflict (kinds.StoreUnsure mark modseq)))
        unsure_may modseq true = flag_later (intents.Store name validity uid mark) pending kinds.FoundSo refl refl refl
        unsure_may modseq false = flag_later (intents.Store name validity uid mark) pending (kinds.StoreUnsure mark modseq) refl refl names_it

        flag_judged_may : (modseq : ℕ) (so : Bool) → is_some p.selected ≡ true → IsLawfulStep p b (flag_judged mark modseq so)
        flag_judged_may modseq so t =
            cond_both (eqb modseq mark) steps.Send (cond so (conflict kinds.FoundSo) (conflict (kinds.StoreUnsure mark modseq)))
            (λ (s : Step). IsLawfulStep p b s) (λ _. flag_send_may t) (λ _. unsure_may modseq so)

        flag_open_may : (told : Finding) → is_some p.selected ≡ true → IsLawfulStep p b (flag_open mark told spot)
        flag_open_may findings.Nothing t = (tt, t)
        flag_open_may findings.NoRow t = flag_later (intents.Store name validity uid mark) pending kinds.GoneAfterLoss refl refl refl
        flag_open_may (findings.Row modseq so) t = flag_judged_may modseq so t
        flag_open_may findings.Barred t = (tt, t)
        flag_open_may (findings.Ended outcome) t = (tt, t)
        flag_open_may (findings.Next v l) t = (tt, t)
        flag_open_may (findings.Candidates uids) t = (tt, t)
        flag_open_may (findings.Probed verdict) t = (tt, t)

        flag_again_may : (resumed : Bool) (told : Finding) → is_some p.selected ≡ true →
            IsLawfulStep p b (flag_again resumed mark told spot)
        flag_again_may false told t = flag_send_may t
        flag_again_may true told t = flag_open_may told t

        flag_boxed_may : (told : Finding) → IsLawfulStep p b (in_box p.selected true spot (flag_again p.resumed mark told spot))
        flag_boxed_may told =
            boxed_may true spot (flag_again p.resumed mark told spot) known (flag_again_may p.resumed told)
            (λ n l. flag_later (intents.Store name validity uid mark) pending (kinds.ResetAfterLoss spot.validity n) refl refl
            (intent_fits (intents.Store name validity uid mark) pending spot.validity n under l))

        flag_meant_may : (told : Finding) → MayEnd told b → IsLawfulStep p b (flag_meant p mark spot told)
        flag_meant_may findings.Nothing m = flag_boxed_may findings.Nothing
        flag_meant_may findings.NoRow m = flag_boxed_may findings.NoRow
        flag_meant_may (findings.Row modseq so) m = flag_boxed_may (findings.Row modseq so)
        flag_meant_may findings.Barred m = flag_boxed_may findings.Barred
        flag_meant_may (findings.Ended outcome) m = end_lawful p b outcome (again (tries_due b.queue) outcome) m
        flag_meant_may (findings.Next v l) m = flag_boxed_may (findings.Next v l)
        flag_meant_may (findings.Candidates uids) m = flag_boxed_may (findings.Candidates uids)
        flag_meant_may (findings.Probed verdict) m = flag_boxed_may (findings.Probed verdict)

      flag_at_may : MayEnd p.told b → resolved b.queue target ≡ found.Real spot.name spot.validity spot.uid → (pending : Option Intent) →
          b.pending ≡ pending → IsLawfulStep p b (step_flag_at p pending spot)
      flag_at_may ends is None h =
          boxed_may false spot (flag_first p.told spot) known (flag_first_may is h p.told)
          (λ n l. flag_free h (kinds.ValidityChanged spot.validity n) refl refl
          (found_fits (resolved b.queue target) spot.name spot.validity spot.uid n is l))
      flag_at_may ends is (Some (intents.Store name validity uid mark)) h =
          let s : Suited b.queue (actions.Flag target add asked) (intents.Store name validity uid mark) =
          subst (λ (x : Action). Suited b.queue x (intents.Store name validity uid mark)) a
          (suited_is b sound q e (intents.Store name validity uid mark) h) in
          flag_meant_may name validity uid mark h (one_validity (resolved b.queue target) spot name validity uid is s) p.told ends
      flag_at_may ends is (Some (intents.Shift from validity uid to)) h = known
      flag_at_may ends is (Some (intents.Put to validity uidnext)) h = known

    flag_may : MayEnd p.told b → Resolves b target → IsLawfulStep p b (step_flag_found p b.pending (resolved b.queue target))
    flag_may ends (inl m) =
        subst (λ (f : Found). IsLawfulStep p b (step_flag_found p b.pending f)) (sym m.is)
        (flag_at_may (spot_at m.name m.validity m.uid) m.known ends m.is b.pending refl)
    flag_may ends (inr n) =
        subst (λ (f : Found). IsLawfulStep p b (step_flag_found p b.pending f)) (sym n.is)
        (flag_free (never_free (λ intent s. no_flag b target add asked n.by n.is intent
        (subst (λ (x : Action). Suited b.queue x intent) a s)) b.pending refl)
        (kinds.TargetUnknown n.by) refl refl (is_never_of (resolved b.queue target) n.by n.is))

  -- a move
  module _ (target : Target) (to : List ℕ) (a : q.action ≡ actions.Move target to) where
    move_free : b.pending ≡ None → (kind : Kind) → again_as (tries_due b.queue) kind ≡ None → follows_intent kind ≡ false → fits b (actions.Move target to) kind ≡ true →
        IsLawfulStep p b (conflict kind)
    move_free free kind last first fit =
        ends_plain p b (outcomes.Conflict kind) last (free_ready b q e few free kind last first (subst (λ (x : Action). fits b x kind ≡ true) (sym a) fit))

    knows_to : IsKnown to b
    knows_to =
        (or_both (is_unknown_target b.boxes target) (is_unknown b.boxes to)
        (subst (λ (x : Action). is_unknown_action b.boxes x ≡ false) a knows_boxes)).1

    module _ (spot : Spot) (known : IsKnown spot.name b) where
      module _ (is : resolved b.queue target ≡ found.Real spot.name spot.validity spot.uid) (free : b.pending ≡ None) where
        move_intend : IsLawfulStep p b (steps.Intend (intents.Shift spot.name spot.validity spot.uid to))
        move_intend =
            intend_ready b q e (intents.Shift spot.name spot.validity spot.uid to) free
            (neither_or (is_unknown b.boxes spot.name) (is_unknown b.boxes to) known knows_to)
            (subst (λ (x : Action). suits b.queue x (intents.Shift spot.name spot.validity spot.uid to) ≡ true) (sym a)
            (and_from _ (bytes_eq to to) (is_there (resolved b.queue target) spot.name spot.validity spot.uid is) (names_same to to refl)))

        move_first_may : (told : Finding) → is_some p.selected ≡ true → IsLawfulStep p b (move_first told spot to)
        move_first_may findings.Nothing t = (tt, t)
        move_first_may findings.NoRow t = move_free free kinds.MessageGone refl refl refl
        move_first_may (findings.Row modseq so) t = move_intend
        move_first_may findings.Barred t = (tt, t)
        move_first_may (findings.Ended outcome) t = (tt, t)
        move_first_may (findings.Next validity uidnext) t = (tt, t)
        move_first_may (findings.Candidates uids) t = (tt, t)
        move_first_may (findings.Probed verdict) t = (tt, t)

      module _ (from : List ℕ) (validity uid : ℕ) (other : List ℕ)
          (pending : b.pending ≡ Some (intents.Shift from validity uid other)) (under : validity ≡ spot.validity) where
        move_send_may : is_some p.selected ≡ true → IsLawfulStep p b steps.Send
        move_send_may =
            send_may (intents.Shift from validity uid other) pending (commands.Shift uid other) refl
            (ap (λ (x : Action). send_of (due_id b) x (intents.Shift from validity uid other)) a)

        source_gone : IsReadyEvent b (events.Settle (due_id b) (outcomes.Conflict kinds.SourceGone))
        source_gone =
            meant_ready b q e few (intents.Shift from validity uid other) pending (outcomes.Conflict kinds.SourceGone) refl refl refl
            (ap not (subst (λ (x : Action). fits b x kinds.SourceGone ≡ true) (sym a) refl))

        move_open_may : (told : Finding) → is_some p.selected ≡ true → IsLawfulStep p b (move_open told spot)
        move_open_may findings.Nothing t = (tt, t)
        move_open_may findings.NoRow t = source_gone
        move_open_may (findings.Row modseq so) t = move_send_may t
        move_open_may findings.Barred t = (tt, t)
        move_open_may (findings.Ended outcome) t = (tt, t)
        move_open_may (findings.Next v l) t = (tt, t)
        move_open_may (findings.Candidates uids) t = (tt, t)
        move_open_may (findings.Probed verdict) t = (tt, t)

        move_again_may : (resumed : Bool) (told : Finding) → is_some p.selected ≡ true → IsLawfulStep p b (move_again resumed told spot)
        move_again_may false told t = move_send_may t
        move_again_may true told t = move_open_may told t

        move_boxed_may : (told : Finding) → IsLawfulStep p b (in_box p.selected true spot (move_again p.resumed told spot))
        move_boxed_may told =
            boxed_may true spot (move_again p.resumed told spot) known (move_again_may p.resumed told)
            (λ n l. meant_ready b q e few (intents.Shift from validity uid other) pending (outcomes.Conflict (kinds.ResetAfterLoss spot.validity n)) refl refl refl
            (ap not (subst (λ (x : Action). fits b x (kinds.ResetAfterLoss spot.validity n) ≡ true) (sym a)
            (intent_fits (intents.Shift from validity uid other) pending spot.validity n under l))))

        move_meant_may : (told : Finding) → MayEnd told b → IsLawfulStep p b (move_meant p spot told)
        move_meant_may findings.Nothing m = move_boxed_may findings.Nothing
        move_meant_may findings.NoRow m = move_boxed_may findings.NoRow
        move_meant_may (findings.Row modseq so) m = move_boxed_may (findings.Row modseq so)
        move_meant_may findings.Barred m = move_boxed_may findings.Barred
        move_meant_may (findings.Ended outcome) m = end_lawful p b outcome (again (tries_due b.queue) outcome) m
        move_meant_may (findings.Next v l) m = move_boxed_may (findings.Next v l)
        move_meant_may (findings.Candidates uids) m = move_boxed_may (findings.Candidates uids)
        move_meant_may (findings.Probed verdict) m = move_boxed_may (findings.Probed verdict)

      move_at_may : MayEnd p.told b → resolved b.queue target ≡ found.Real spot.name spot.validity spot.uid → (pending : Option Intent) →
          b.pending ≡ pending → IsLawfulStep p b (step_move_at p pending spot to)
      move_at_may ends is None h =
          boxed_may false spot (move_first p.told spot to) known (move_first_may is h p.told)
          (λ n l. move_free h (kinds.ValidityChanged spot.validity n) refl refl
          (found_fits (resolved b.queue target) spot.name spot.validity spot.uid n is l))
      move_at_may ends is (Some (intents.Shift from validity uid other)) h =
          let s : Suited b.queue (actions.Move target to) (intents.Shift from validity uid other) =
          subst (λ (x : Action). Suited b.queue x (intents.Shift from validity uid other)) a
          (suited_is b sound q e (intents.Shift from validity uid other) h) in
          move_meant_may from validity uid other h (one_validity (resolved b.queue target) spot from validity uid is s.0) p.told ends
      move_at_may ends is (Some (intents.Store name validity uid mark)) h = known
      move_at_may ends is (Some (intents.Put other validity uidnext)) h = known

    move_may : MayEnd p.told b → Resolves b target → IsLawfulStep p b (step_move_found p b.pending to (resolved b.queue target))
    move_may ends (inl m) =
        subst (λ (f : Found). IsLawfulStep p b (step_move_found p b.pending to f)) (sym m.is)
        (move_at_may (spot_at m.name m.validity m.uid) m.known ends m.is b.pending refl)
    move_may ends (inr n) =
        subst (λ (f : Found). IsLawfulStep p b (step_move_found p b.pending to f)) (sym n.is)
        (move_free (never_free (λ intent s. no_move b target to n.by n.is intent
        (subst (λ (x : Action). Suited b.queue x intent) a s)) b.pending refl)
        (kinds.TargetUnknown n.by) refl refl (is_never_of (resolved b.queue target) n.by n.is))

  -- an append
  module _ (parts : PartsAreParts) (to : List ℕ) (flags : List (List ℕ)) (text id : List ℕ)
      (a : q.action ≡ actions.Append to flags text id) where
    knows_box : IsKnown to b
    knows_box = subst (λ (x : Action). is_unknown_action b.boxes x ≡ false) a knows_boxes

    has_id : HasMessageId text id
    has_id =
        let w : IsWritableAction (actions.Append to flags text id) =
        subst (λ (x : Action). IsWritableAction x) a (sound.writable (due b.queue) q e) in w.1

    search_may : (uidnext : ℕ) → is_some p.selected ≡ true → IsLawfulStep p b (steps.Search uidnext)
    search_may uidnext t =
        subst (λ (o : Option Queued). IsLawfulNeed (need_search uidnext o) p b) (sym e)
        (subst (λ (x : Action). IsLawfulNeed (search_of uidnext x) p b) (sym a)
        ((parts id).no_nul has_id.form, t))

    put_new_may : b.pending ≡ None → (validity uidnext : ℕ) → IsLawfulStep p b (append_new p.selected to validity uidnext)
    put_new_may free validity uidnext =
        cond_both (is_selected_at p.selected to validity) (steps.Intend (intents.Put to validity uidnext)) (select_any to)
        (λ (s : Step). IsLawfulStep p b s)
        (λ t. intend_ready b q e (intents.Put to validity uidnext) free knows_box
        (subst (λ (x : Action). suits b.queue x (intents.Put to validity uidnext) ≡ true) (sym a) (names_same to to refl)))
        (λ f. knows_box)

    put_first_may : b.pending ≡ None → (told : Finding) → IsLawfulStep p b (append_first p.selected told to)
    put_first_may free findings.Nothing = knows_box
    put_first_may free findings.NoRow = knows_box
    put_first_may free (findings.Row modseq so) = knows_box
    put_first_may free findings.Barred = knows_box
    put_first_may free (findings.Ended outcome) = knows_box
    put_first_may free (findings.Next validity uidnext) = put_new_may free validity uidnext
    put_first_may free (findings.Candidates uids) = knows_box
    put_first_may free (findings.Probed verdict) = knows_box

    module _ (other : List ℕ) (validity uidnext : ℕ) (pending : b.pending ≡ Some (intents.Put other validity uidnext)) where
      put_send_may : is_some p.selected ≡ true → IsLawfulStep p b steps.Send
      put_send_may =
          send_may (intents.Put other validity uidnext) pending (commands.Append other flags text) refl
          (ap (λ (x : Action). send_of (due_id b) x (intents.Put other validity uidnext)) a)

      put_judged_may : (verdict : Verdict) → is_some p.selected ≡ true → IsLawfulStep p b (append_judged verdict validity)
      put_judged_may verdicts.NotThere t = put_send_may t
      put_judged_may (verdicts.There uid) t =
          meant_ready b q e few (intents.Put other validity uidnext) pending
          (outcomes.Done (Some (record { validity = validity; uid = uid }))) refl refl
          (subst (λ (x : Action). is_misplaced_of x (outcomes.Done (Some (record { validity = validity; uid = uid }))) ≡ false)
          (sym a) refl) refl
      put_judged_may (verdicts.Several first second) t =
          meant_ready b q e few (intents.Put other validity uidnext) pending (outcomes.Conflict (kinds.Ambiguous first second)) refl refl refl
          (ap not (subst (λ (x : Action). fits b x (kinds.Ambiguous first second) ≡ true) (sym a) refl))

      put_open_may : (told : Finding) → p.told ≡ told → is_some p.selected ≡ true → IsLawfulStep p b (append_open told to validity uidnext)
      put_open_may findings.Nothing is t = knows_box
      put_open_may findings.NoRow is t = knows_box
      put_open_may (findings.Row modseq so) is t = knows_box
      put_open_may findings.Barred is t = knows_box
      put_open_may (findings.Ended outcome) is t = knows_box
      put_open_may (findings.Next v l) is t = search_may uidnext t
      put_open_may (findings.Candidates uids) is t = subst (λ (x : Finding). IsLawfulNeed (need_ids x) p b) (sym is) (tt, t)
      put_open_may (findings.Probed verdict) is t = put_judged_may verdict t

      put_again_may : (resumed : Bool) (told : Finding) → p.told ≡ told → is_some p.selected ≡ true →
          IsLawfulStep p b (append_again resumed told to validity uidnext)
      put_again_may false told is t = put_send_may t
      put_again_may true told is t = put_open_may told is t

      put_boxed_may : (told : Finding) → p.told ≡ told → IsLawfulStep p b (append_in_box p to validity uidnext told)
      put_boxed_may told is =
          cond_both (is_selected_at p.selected to validity) (append_again p.resumed told to validity uidnext)
          (elsewhere true (above_at p.selected to validity) to validity) (λ (s : Step). IsLawfulStep p b s)
          (λ t. put_again_may p.resumed told is (selected_some p.selected to validity t))
          (λ f. elsewhere_any (λ (s : Step). IsLawfulStep p b s) p.selected true to validity knows_box
          (λ n above. meant_ready b q e few (intents.Put other validity uidnext) pending (outcomes.Conflict (kinds.ResetAfterLoss validity n)) refl refl refl
          (ap not (subst (λ (x : Action). fits b x (kinds.ResetAfterLoss validity n) ≡ true) (sym a)
          (intent_fits (intents.Put other validity uidnext) pending validity n refl above.above)))))

      put_meant_may : (told : Finding) → p.told ≡ told → MayEnd told b → IsLawfulStep p b (append_meant p to validity uidnext told)
      put_meant_may findings.Nothing is m = put_boxed_may findings.Nothing is
      put_meant_may findings.NoRow is m = put_boxed_may findings.NoRow is
      put_meant_may (findings.Row modseq so) is m = put_boxed_may (findings.Row modseq so) is
      put_meant_may findings.Barred is m = put_boxed_may findings.Barred is
      put_meant_may (findings.Ended outcome) is m = end_lawful p b outcome (again (tries_due b.queue) outcome) m
      put_meant_may (findings.Next v l) is m = put_boxed_may (findings.Next v l) is
      put_meant_may (findings.Candidates uids) is m = put_boxed_may (findings.Candidates uids) is
      put_meant_may (findings.Probed verdict) is m = put_boxed_may (findings.Probed verdict) is

    append_may : MayEnd p.told b → (pending : Option Intent) → b.pending ≡ pending → IsLawfulStep p b (step_append p pending to)
    append_may ends None h = put_first_may h p.told
    append_may ends (Some (intents.Put other validity uidnext)) h = put_meant_may other validity uidnext h p.told refl ends
    append_may ends (Some (intents.Store name validity uid mark)) h = knows_box
    append_may ends (Some (intents.Shift from validity uid other)) h = knows_box

  action_may : PartsAreParts → MayEnd p.told b → (action : Action) → q.action ≡ action → IsLawfulStep p b (step_action p b action)
  action_may parts ends (actions.Flag target add asked) a = flag_may target add asked a ends (of_flag b sound q e target add asked a)
  action_may parts ends (actions.Move target to) a = move_may target to a ends (of_move b sound q e target to a)
  action_may parts ends (actions.Append to flags text id) a = append_may parts to flags text id a ends b.pending refl

-- a mailbox of the book is known
known_if : (k : Known) (ks : List Known) (name : List ℕ) → is_unknown ks name ≡ false → is_unknown (k ∷ ks) name ≡ false
known_if k ks name h =
    cond_both (bytes_eq k.name name) (Some k) (known_at name ks) (λ (o : Option Known). is_none o ≡ false) (λ t. refl) (λ f. h)

known_first : (k : Known) (ks : List Known) → is_unknown (k ∷ ks) k.name ≡ false
known_first k ks =
    ap (λ (o : Option Known). is_none o) (cond-true (bytes_eq k.name k.name) (Some k) (known_at k.name ks) (names_same k.name k.name refl))

known_there : (ks : List Known) (i : ℕ) (known : Known) → slice_get ks i ≡ Some known → is_unknown ks known.name ≡ false
known_there [] i known = λ h. absurd (cc)
known_there (k ∷ ks) zero known = λ h. subst (λ (x : Known). is_unknown (k ∷ ks) x.name ≡ false) (same_Some k known h) (known_first k ks)
known_there (k ∷ ks) (suc i) known = λ h. known_if k ks known.name (known_there ks i known h)

module _ (parts : PartsAreParts) (p : Player) (b : Meaning) (sound : IsSound b) (beside : IsBeside p b) where
  box_may : (o : Option Known) → slice_get b.boxes p.resynced ≡ o → IsLawfulStep p b (step_box o)
  box_may None k = tt
  box_may (Some known) k = known_there b.boxes p.resynced known k

  due_may : (o : Option Queued) → due_action b.queue ≡ o → IsLawfulStep p b (step_due p b o)
  due_may None e = box_may (slice_get b.boxes p.resynced) refl
  due_may (Some q) e = action_may p b sound q e parts beside.ends q.action refl

  learn_may : (o : Option Resynced) → p.learns ≡ o → MayRecord o b → IsLawfulStep p b (step_learn p b o)
  learn_may None h m = due_may (due_action b.queue) refl
  learn_may (Some told) h m = subst (λ (x : Option Resynced). IsLawfulNeed (need_learn x) p b) (sym h) m

-- what is needed can be done, whatever the replies were
pub lawful_need : PartsAreParts → (p : Player) (b : Meaning) → IsSound b → IsBeside p b → IsLawfulNeed (need_of p b) p b
lawful_need parts p b sound beside = learn_may parts p b sound beside p.learns refl beside.learns

-- the same of what a call gives
pub needed_lawful : PartsAreParts → (p : Player) (b : Meaning) (r : Result Need AllocError) → IfOk r (λ need. need ≡ need_of p b) →
    IsSound b → IsBeside p b →
    IfOk r (λ need. IsLawfulNeed need p b)
needed_lawful parts p b (Ok need) is sound beside = subst (λ (x : Need). IsLawfulNeed x p b) (sym is) (lawful_need parts p b sound beside)
needed_lawful parts p b (Err error) is sound beside = tt

-- the outcome, if this is one, may be recorded
abbrev IsReadyIf : Meaning → Result Finding Item → Type 0
IsReadyIf b r = (outcome : Outcome) → r ≡ Ok (findings.Ended outcome) → IsReadyEvent b (end_due b outcome)

ready_if : (b : Meaning) (outcome : Outcome) → IsReadyEvent b (end_due b outcome) → IsReadyIf b (Ok (findings.Ended outcome))
ready_if b outcome r = λ other e.
    let is : outcome ≡ other = cc in
    subst (λ (x : Outcome). IsReadyEvent b (end_due b x)) is r

none_ready : (b : Meaning) (item : Item) → IsReadyIf b (Err item)
none_ready b item = λ other e. absurd (cc)

idle_ready : (b : Meaning) → IsReadyIf b (Ok findings.Nothing)
idle_ready b = λ other e. absurd (cc)

module _ (b : Meaning) (q : Queued) (e : due_action b.queue ≡ Some q) (few : q.tries ≤ 2) (intent : Intent) (pending : b.pending ≡ Some intent)
    (resumed : Bool) (r : Replies) where
  conflict_if : (kind : Kind) → again_as (tries_due b.queue) kind ≡ None → comes_before_intent (outcomes.Conflict kind) ≡ false →
      fits b q.action kind ≡ true → IsReadyIf b (Ok (ended (outcomes.Conflict kind)))
  conflict_if kind last later fit =
      ready_if b (outcomes.Conflict kind)
      (end_plain b (outcomes.Conflict kind) last (meant_ready b q e few intent pending (outcomes.Conflict kind) last later refl (ap not fit)))

  refused_no_if : (action : Action) → q.action ≡ action → fits b action kinds.RefusedNo ≡ true →
      IsReadyIf b (Ok (ended (outcomes.Conflict kinds.RefusedNo)))
  refused_no_if action a fit = conflict_if kinds.RefusedNo refl refl (subst (λ (x : Action). fits b x kinds.RefusedNo ≡ true) (sym a) fit)

  refused_bad_if : (action : Action) → q.action ≡ action → fits b action kinds.RefusedBad ≡ true →
      IsReadyIf b (Ok (ended (outcomes.Conflict kinds.RefusedBad)))
  refused_bad_if action a fit = conflict_if kinds.RefusedBad refl refl (subst (λ (x : Action). fits b x kinds.RefusedBad ≡ true) (sym a) fit)

  -- a STORE
  module _ (target : Target) (add : Bool) (asked : List (List ℕ)) (a : q.action ≡ actions.Flag target add asked) (uid mark : ℕ)
      (names_it : names_mark b.pending mark ≡ true) where
    flag_if : (kind : Kind) → again_as (tries_due b.queue) kind ≡ None → comes_before_intent (outcomes.Conflict kind) ≡ false →
        fits b (actions.Flag target add asked) kind ≡ true → IsReadyIf b (Ok (ended (outcomes.Conflict kind)))
    flag_if kind last later fit = conflict_if kind last later (subst (λ (x : Action). fits b x kind ≡ true) (sym a) fit)

    -- another changed the message: the try is taken back, or the action ends
    flag_changed : IsReadyIf b (Ok (ended (outcomes.Conflict (kinds.FlagsChanged mark))))
    flag_changed =
        let tries : ℕ = tries_due b.queue in
        ready_if b (outcomes.Conflict (kinds.FlagsChanged mark))
        (cond_both (nat_lt tries 2) (Some (tries + 1)) None
        (λ (o : Option ℕ). IsReadyEvent b (end_of (due_id b) (outcomes.Conflict (kinds.FlagsChanged mark)) o))
        (λ t. withdraw_ready b q e intent pending (ap is_no_flag_of a) (ltb-true tries 2 t))
        (λ f. meant_ready b q e few intent pending (outcomes.Conflict (kinds.FlagsChanged mark)) (cond-false (nat_lt tries 2) (Some (tries + 1)) None f)
        refl refl (ap not (subst (λ (x : Action). fits b x (kinds.FlagsChanged mark) ≡ true) (sym a) names_it))))

    flag_gone_if : (t : Bool) → IsReadyIf b (Ok (flag_gone t))
    flag_gone_if true = flag_if kinds.GoneAfterLoss refl refl refl
    flag_gone_if false = flag_if kinds.MessageGone refl refl refl

    flag_done : IsReadyIf b (Ok (ended (outcomes.Done None)))
    flag_done =
        ready_if b (outcomes.Done None)
        (meant_ready b q e few intent pending (outcomes.Done None) refl refl
        (subst (λ (x : Action). is_misplaced_of x (outcomes.Done None) ≡ false) (sym a) refl) refl)

    stored_if : (told : List Response) (ending : Ending) → IsReadyIf b (Ok (read_stored uid resumed told ending))
    stored_if told endings.Ok =
        cond_both (is_some (last_fetch uid told)) (ended (outcomes.Done None)) (flag_gone resumed) (λ (f : Finding). IsReadyIf b (Ok f))
        (λ t. flag_done) (λ f. flag_gone_if resumed)
    stored_if told endings.No = flag_if kinds.RefusedNo refl refl refl
    stored_if told endings.Bad = flag_if kinds.RefusedBad refl refl refl

    store_if : IsReadyIf b (Ok (read_store uid mark resumed r))
    store_if =
        cond_both (names_modified uid r.code) (ended (outcomes.Conflict (kinds.FlagsChanged mark)))
        (read_stored uid resumed r.untagged r.ending)
        (λ (f : Finding). IsReadyIf b (Ok f))
        (λ t. flag_changed) (λ f. stored_if r.untagged r.ending)

  -- a MOVE
  module _ (target : Target) (to : List ℕ) (a : q.action ≡ actions.Move target to) (uid : ℕ) where
    move_gone_if : (t : Bool) → IsReadyIf b (Ok (move_gone t))
    move_gone_if true = conflict_if kinds.SourceGone refl refl (subst (λ (x : Action). fits b x kinds.SourceGone ≡ true) (sym a) refl)
    move_gone_if false = conflict_if kinds.MessageGone refl refl (subst (λ (x : Action). fits b x kinds.MessageGone ≡ true) (sym a) refl)

    place_is : (t : Bool) (validity : ℕ) (o : Option ℕ) → IsReadyIf b (place_if t validity o)
    place_is true validity (Some received) =
        ready_if b (outcomes.Done (Some (record { validity = validity; uid = received })))
        (meant_ready b q e few intent pending (outcomes.Done (Some (record { validity = validity; uid = received }))) refl refl
        (subst (λ (x : Action). is_misplaced_of x (outcomes.Done (Some (record { validity = validity; uid = received }))) ≡ false)
        (sym a) refl) refl)
    place_is true validity None = none_ready b _
    place_is false validity o = none_ready b _

    copied_if : (code : Code) → IsReadyIf b (read_copied uid code)
    copied_if (codings.CopyUid validity source to_set) = place_is (names_uid uid (one_of source)) validity (one_of to_set)
    copied_if codings.None = none_ready b _
    copied_if (codings.Capability words) = none_ready b _
    copied_if (codings.UidNext next) = none_ready b _
    copied_if (codings.UidValidity validity) = none_ready b _
    copied_if (codings.PermanentFlags flags any) = none_ready b _
    copied_if (codings.HighestModSeq modseq) = none_ready b _
    copied_if codings.NoModSeq = none_ready b _
    copied_if codings.UidNotSticky = none_ready b _
    copied_if (codings.AppendUid validity other) = none_ready b _
    copied_if (codings.Modified uids) = none_ready b _
    copied_if codings.Closed = none_ready b _
    copied_if codings.Other = none_ready b _

    moved_if : (o : Option Code) → IsReadyIf b (read_moved uid resumed o)
    moved_if None = move_gone_if resumed
    moved_if (Some code) = copied_if code

    move_if : (o : Option Code) (ending : Ending) → IsReadyIf b (read_move_by uid resumed o ending)
    move_if o endings.Ok = moved_if o
    move_if o endings.No = refused_no_if (actions.Move target to) a refl
    move_if o endings.Bad = refused_bad_if (actions.Move target to) a refl

  -- an APPEND
  module _ (to : List ℕ) (flags : List (List ℕ)) (text id : List ℕ) (a : q.action ≡ actions.Append to flags text id) where
    appended_if : (code : Code) → IsReadyIf b (read_appended code)
    appended_if (codings.AppendUid validity uid) =
        ready_if b (outcomes.Done (Some (record { validity = validity; uid = uid })))
        (meant_ready b q e few intent pending (outcomes.Done (Some (record { validity = validity; uid = uid }))) refl refl
        (subst (λ (x : Action). is_misplaced_of x (outcomes.Done (Some (record { validity = validity; uid = uid }))) ≡ false)
        (sym a) refl) refl)
    appended_if codings.None = none_ready b _
    appended_if (codings.Capability words) = none_ready b _
    appended_if (codings.UidNext next) = none_ready b _
    appended_if (codings.UidValidity validity) = none_ready b _
    appended_if (codings.PermanentFlags others any) = none_ready b _
    appended_if (codings.HighestModSeq modseq) = none_ready b _
    appended_if codings.NoModSeq = none_ready b _
    appended_if codings.UidNotSticky = none_ready b _
    appended_if (codings.CopyUid validity source to_set) = none_ready b _
    appended_if (codings.Modified uids) = none_ready b _
    appended_if codings.Closed = none_ready b _
    appended_if codings.Other = none_ready b _

    append_if : (code : Code) (ending : Ending) → IsReadyIf b (read_append_by code ending)
    append_if code endings.Ok = appended_if code
    append_if code endings.No = refused_no_if (actions.Append to flags text id) a refl
    append_if code endings.Bad = refused_bad_if (actions.Append to flags text id) a refl

module _ (b : Meaning) (q : Queued) (e : due_action b.queue ≡ Some q) (few : q.tries ≤ 2) (resumed : Bool) (r : Replies) where
  sent_if : (action : Action) → q.action ≡ action → (intent : Intent) → b.pending ≡ Some intent →
      IsReadyIf b (read_sent resumed action intent r)
  sent_if (actions.Flag target add asked) a (intents.Store name validity uid mark) p =
      store_if b q e few (intents.Store name validity uid mark) p resumed r target add asked a uid mark
      (ap (λ (o : Option Intent). names_mark o mark) p ∙ eq-eqb mark mark refl)
  sent_if (actions.Move target to) a (intents.Shift from validity uid other) p =
      move_if b q e few (intents.Shift from validity uid other) p resumed r target to a uid (last_copied r.untagged r.code) r.ending
  sent_if (actions.Append to flags text id) a (intents.Put other validity uidnext) p =
      append_if b q e few (intents.Put other validity uidnext) p resumed r to flags text id a r.code r.ending
  sent_if (actions.Flag target add asked) a (intents.Shift from validity uid to) p = idle_ready b
  sent_if (actions.Flag target add asked) a (intents.Put to validity uidnext) p = idle_ready b
  sent_if (actions.Move target to) a (intents.Store name validity uid mark) p = idle_ready b
  sent_if (actions.Move target to) a (intents.Put other validity uidnext) p = idle_ready b
  sent_if (actions.Append to flags text id) a (intents.Store name validity uid mark) p = idle_ready b
  sent_if (actions.Append to flags text id) a (intents.Shift from validity uid other) p = idle_ready b

-- what a reply to the command of an intent makes of its action may be recorded
pub read_lawful : (b : Meaning) (q : Queued) → due_action b.queue ≡ Some q → q.tries ≤ 2 → (intent : Intent) → b.pending ≡ Some intent →
    (resumed : Bool) (r : Replies) (outcome : Outcome) →
    read_sent resumed q.action intent r ≡ Ok (findings.Ended outcome) → IsReadyEvent b (end_due b outcome)
read_lawful b q e few intent pending resumed r outcome k = sent_if b q e few resumed r q.action refl intent pending outcome k
