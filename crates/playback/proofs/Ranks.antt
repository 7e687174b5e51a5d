-- What is so of each step that may be due, and of what it needs, is so of the one that is.
use Rattle.action_queue.specs.Book.{Meaning}
use Rattle.action_queue.specs.Queues.{due_action}
use Rattle.action_queue.specs.declared.action.Action.{Action}
use Rattle.action_queue.specs.declared.book.Known.{Known}
use Rattle.action_queue.specs.declared.intent.Intent.{Intent}
use Rattle.action_queue.specs.declared.outcome.Kind.{Kind}
use Rattle.action_queue.specs.declared.outcome.Outcome.{Outcome}
use Rattle.action_queue.specs.declared.outcome.Place.{Place}
use Rattle.action_queue.specs.declared.queued.Queued.{Queued}
use Rattle.append_probe.specs.Question.{question_of}
use Rattle.append_probe.specs.declared.verdict.Verdict.{Verdict}
use Rattle.imap_model.specs.declared.command.Command.{Command}
use Rattle.playback.proofs.Elsewhere.{elsewhere_any}
use Rattle.playback.specs.Steps.{above_at, elsewhere, renewed_as}
use Rattle.playback.specs.Left.{rank, rank_of}
use Rattle.playback.specs.Needs.{again_as, need_ids, need_search, need_send, search_of, send_meant, send_of}
use Rattle.playback.specs.Steps.{append_again, append_first, append_in_box, append_judged, append_meant, append_open, conflict, flag_again}
use Rattle.playback.specs.Steps.{flag_first, flag_judged, flag_meant, flag_open, in_box, is_selected, is_selected_at, move_again}
use Rattle.playback.specs.Steps.{move_first, move_meant, move_open, select_any, select_box, select_under, step_box, step_due, step_learn}
use Rattle.playback.specs.Steps.{step_of}
use Rattle.playback.specs.declared.finding.Finding.{Finding}
use Rattle.playback.specs.declared.finding.Resynced.{Resynced}
use Rattle.playback.specs.declared.finding.Selected.{Selected}
use Rattle.playback.specs.declared.finding.Spot.{Spot}
use Rattle.playback.specs.declared.need.Need.{Need}
use Rattle.playback.specs.declared.player.Player.{Player}
use Rattle.playback.specs.declared.step.Step.{Step}
use Rattle.std.proofs.Common.{Bool, List, None, Option, Some, ap, arith, cond, false, refl, subst, sym, true, ℕ, ◌+◌, ◌<◌, ◌∙◌, ◌≡◌, ◌≤◌}
use Rattle.std.proofs.lemmas.Bool.{cond-true, cond_both}
use Rattle.std.specs.Prelude.{◌==◌}
use Rattle.uid_sets.specs.declared.uid.UidRange.{UidRange}
use Rattle.action_queue.specs.declared.action.Action.TheVariants as actions
use Rattle.imap_model.specs.declared.command.Command.TheVariants as commands
use Rattle.playback.specs.declared.finding.Finding.TheVariants as findings
use Rattle.action_queue.specs.declared.intent.Intent.TheVariants as intents
use Rattle.action_queue.specs.declared.outcome.Kind.TheVariants as kinds
use Rattle.playback.specs.declared.need.Need.TheVariants as needs
use Rattle.action_queue.specs.declared.outcome.Outcome.TheVariants as outcomes
use Rattle.playback.specs.declared.step.Step.TheVariants as steps
use Rattle.append_probe.specs.declared.verdict.Verdict.TheVariants as verdicts

-- What is so of each step that an action may have is so of the one that it has. The step is in the mailbox of the message, or selects it.
module _ (P : Step → Type 0) where
  either : (test : Bool) (x y : Step) → P x → P y → P (cond test x y)
  either test x y a b = cond_both test x y P (λ t. a) (λ f. b)

  pub boxed : (selected : Option Selected) (meant : Bool) (spot : Spot) (step : Step) → (is_selected selected spot ≡ true → P step) →
      (is_selected selected spot ≡ false → P (select_box spot)) → ((n : ℕ) → P (conflict (renewed_as meant spot.validity n))) →
      P (in_box selected meant spot step)
  boxed selected meant spot step here selects above =
      cond_both (is_selected selected spot) step (elsewhere meant (above_at selected spot.name spot.validity) spot.name spot.validity) P here
      (λ f. elsewhere_any P selected meant spot.name spot.validity (selects f) (λ n a. above n))

  -- An action ends as a conflict that takes no try back, or it is done; where its command was answered, it ends as that tells.
  module _ (ends : (kind : Kind) → again_as 0 kind ≡ None → P (conflict kind)) (done : (place : Option Place) → P (steps.Settle (outcomes.Done place))) where
    pub flag_first_by : (spot : Spot) → P (steps.AskRow spot.uid) →
        ((modseq : ℕ) → P (steps.Intend (intents.Store spot.name spot.validity spot.uid modseq))) → (told : Finding) → P (flag_first told spot)
    flag_first_by spot asks means findings.NoRow = ends kinds.MessageGone refl
    flag_first_by spot asks means (findings.Row modseq so) =
        either so (conflict kinds.AlreadySo) (steps.Intend (intents.Store spot.name spot.validity spot.uid modseq)) (ends kinds.AlreadySo refl)
        (means modseq)
    flag_first_by spot asks means findings.Barred = ends kinds.NotPermanent refl
    flag_first_by spot asks means told = asks

    pub judged_by : P steps.Send → (mark modseq : ℕ) (so : Bool) → P (flag_judged mark modseq so)
    judged_by sends mark modseq so =
        either (modseq == mark) steps.Send (cond so (conflict kinds.FoundSo) (conflict (kinds.StoreUnsure mark modseq))) sends
        (either so (conflict kinds.FoundSo) (conflict (kinds.StoreUnsure mark modseq)) (ends kinds.FoundSo refl) (ends (kinds.StoreUnsure mark modseq) refl))

    flag_open_by : (spot : Spot) → P (steps.AskRow spot.uid) → P steps.Send → (mark : ℕ) (told : Finding) → P (flag_open mark told spot)
    flag_open_by spot asks sends mark findings.NoRow = ends kinds.GoneAfterLoss refl
    flag_open_by spot asks sends mark (findings.Row modseq so) = judged_by sends mark modseq so
    flag_open_by spot asks sends mark told = asks

    flag_again_by : (spot : Spot) → P (steps.AskRow spot.uid) → P steps.Send → (resumed : Bool) (mark : ℕ) (told : Finding) →
        P (flag_again resumed mark told spot)
    flag_again_by spot asks sends false mark told = sends
    flag_again_by spot asks sends true mark told = flag_open_by spot asks sends mark told

    module _ (p : Player) (mark : ℕ) (spot : Spot) (selects : is_selected p.selected spot ≡ false → P (select_box spot))
        (asks : is_selected p.selected spot ≡ true → P (steps.AskRow spot.uid)) (sends : is_selected p.selected spot ≡ true → P steps.Send) where
      flag_boxed_by : (told : Finding) → P (in_box p.selected true spot (flag_again p.resumed mark told spot))
      flag_boxed_by told =
          boxed p.selected true spot (flag_again p.resumed mark told spot) (λ t. flag_again_by spot (asks t) (sends t) p.resumed mark told) selects
          (λ n. ends (kinds.ResetAfterLoss spot.validity n) refl)

      pub flag_meant_by : (told : Finding) → ((outcome : Outcome) → told ≡ findings.Ended outcome → P (steps.Settle outcome)) → P (flag_meant p mark spot told)
      flag_meant_by (findings.Ended outcome) ended = ended outcome refl
      flag_meant_by told ended = flag_boxed_by told

    pub move_first_by : (spot : Spot) (to : List ℕ) → P (steps.AskRow spot.uid) →
        P (steps.Intend (intents.Shift spot.name spot.validity spot.uid to)) → (told : Finding) → P (move_first told spot to)
    move_first_by spot to asks means findings.NoRow = ends kinds.MessageGone refl
    move_first_by spot to asks means (findings.Row modseq so) = means
    move_first_by spot to asks means told = asks

    move_open_by : (spot : Spot) → P (steps.AskRow spot.uid) → P steps.Send → (told : Finding) → P (move_open told spot)
    move_open_by spot asks sends findings.NoRow = ends kinds.SourceGone refl
    move_open_by spot asks sends (findings.Row modseq so) = sends
    move_open_by spot asks sends told = asks

    move_again_by : (spot : Spot) → P (steps.AskRow spot.uid) → P steps.Send → (resumed : Bool) (told : Finding) → P (move_again resumed told spot)
    move_again_by spot asks sends false told = sends
    move_again_by spot asks sends true told = move_open_by spot asks sends told

    module _ (p : Player) (spot : Spot) (selects : is_selected p.selected spot ≡ false → P (select_box spot))
        (asks : is_selected p.selected spot ≡ true → P (steps.AskRow spot.uid))
        (sends : is_selected p.selected spot ≡ true → P steps.Send) where
      move_boxed_by : (told : Finding) → P (in_box p.selected true spot (move_again p.resumed told spot))
      move_boxed_by told =
          boxed p.selected true spot (move_again p.resumed told spot) (λ t. move_again_by spot (asks t) (sends t) p.resumed told) selects
          (λ n. ends (kinds.ResetAfterLoss spot.validity n) refl)

      pub move_meant_by : (told : Finding) → ((outcome : Outcome) → told ≡ findings.Ended outcome → P (steps.Settle outcome)) → P (move_meant p spot told)
      move_meant_by (findings.Ended outcome) ended = ended outcome refl
      move_meant_by told ended = move_boxed_by told

    pub append_first_by : (selected : Option Selected) (to : List ℕ) → P (select_any to) →
        ((validity uidnext : ℕ) → is_selected_at selected to validity ≡ true → P (steps.Intend (intents.Put to validity uidnext))) →
        (told : Finding) → P (append_first selected told to)
    append_first_by selected to selects means (findings.Next validity uidnext) =
        cond_both (is_selected_at selected to validity) (steps.Intend (intents.Put to validity uidnext)) (select_any to) P (means validity uidnext)
        (λ f. selects)
    append_first_by selected to selects means told = selects

    pub append_judged_by : P steps.Send → (verdict : Verdict) (validity : ℕ) → P (append_judged verdict validity)
    append_judged_by sends verdicts.NotThere validity = sends
    append_judged_by sends (verdicts.There uid) validity = done (Some (record { validity = validity; uid = uid }))
    append_judged_by sends (verdicts.Several first second) validity = ends (kinds.Ambiguous first second) refl

    module _ (to : List ℕ) (validity uidnext : ℕ) (selects : P (select_under to validity)) where
      append_open_by : P (steps.Search uidnext) → P steps.Send → (told : Finding) →
          ((uids : List UidRange) → told ≡ findings.Candidates uids → P steps.AskIds) → P (append_open told to validity uidnext)
      append_open_by searches sends (findings.Next validity_told next) asks = searches
      append_open_by searches sends (findings.Candidates uids) asks = asks uids refl
      append_open_by searches sends (findings.Probed verdict) asks = append_judged_by sends verdict validity
      append_open_by searches sends told asks = selects

      append_again_by : P (steps.Search uidnext) → P steps.Send → (resumed : Bool) (told : Finding) →
          ((uids : List UidRange) → told ≡ findings.Candidates uids → P steps.AskIds) → P (append_again resumed told to validity uidnext)
      append_again_by searches sends false told asks = sends
      append_again_by searches sends true told asks = append_open_by searches sends told asks

      module _ (p : Player) (searches : is_selected_at p.selected to validity ≡ true → P (steps.Search uidnext))
          (sends : is_selected_at p.selected to validity ≡ true → P steps.Send) where
        append_boxed_by : (told : Finding) →
            ((uids : List UidRange) → told ≡ findings.Candidates uids → is_selected_at p.selected to validity ≡ true → P steps.AskIds) →
            P (append_in_box p to validity uidnext told)
        append_boxed_by told asks =
            cond_both (is_selected_at p.selected to validity) (append_again p.resumed told to validity uidnext)
            (elsewhere true (above_at p.selected to validity) to validity) P
            (λ t. append_again_by (searches t) (sends t) p.resumed told (λ uids e. asks uids e t))
            (λ f. elsewhere_any P p.selected true to validity selects (λ n a. ends (kinds.ResetAfterLoss validity n) refl))

        pub append_meant_by : (told : Finding) →
            ((uids : List UidRange) → told ≡ findings.Candidates uids → is_selected_at p.selected to validity ≡ true → P steps.AskIds) →
            ((outcome : Outcome) → told ≡ findings.Ended outcome → P (steps.Settle outcome)) → P (append_meant p to validity uidnext told)
        append_meant_by (findings.Ended outcome) asks ended = ended outcome refl
        append_meant_by told asks ended = append_boxed_by told asks

  module _ (settles : (outcome : Outcome) → P (steps.Settle outcome)) where
    plain : (kind : Kind) → again_as 0 kind ≡ None → P (conflict kind)
    plain kind e = settles (outcomes.Conflict kind)

    did : (place : Option Place) → P (steps.Settle (outcomes.Done place))
    did place = settles (outcomes.Done place)

    pub ends : (kind : Kind) → P (conflict kind)
    ends kind = settles (outcomes.Conflict kind)

    pub flag_first_any : (spot : Spot) → P (steps.AskRow spot.uid) →
        ((modseq : ℕ) → P (steps.Intend (intents.Store spot.name spot.validity spot.uid modseq))) → (told : Finding) → P (flag_first told spot)
    flag_first_any spot asks means told = flag_first_by plain did spot asks means told

    pub judged_any : P steps.Send → (mark modseq : ℕ) (so : Bool) → P (flag_judged mark modseq so)
    judged_any sends mark modseq so = judged_by plain did sends mark modseq so

    module _ (p : Player) (mark : ℕ) (spot : Spot) (selects : is_selected p.selected spot ≡ false → P (select_box spot))
        (asks : is_selected p.selected spot ≡ true → P (steps.AskRow spot.uid)) (sends : is_selected p.selected spot ≡ true → P steps.Send) where
      pub flag_meant_any : (told : Finding) → P (flag_meant p mark spot told)
      flag_meant_any told = flag_meant_by plain did p mark spot selects asks sends told (λ outcome e. settles outcome)

    pub move_first_any : (spot : Spot) (to : List ℕ) → P (steps.AskRow spot.uid) →
        P (steps.Intend (intents.Shift spot.name spot.validity spot.uid to)) → (told : Finding) → P (move_first told spot to)
    move_first_any spot to asks means told = move_first_by plain did spot to asks means told

    module _ (p : Player) (spot : Spot) (selects : is_selected p.selected spot ≡ false → P (select_box spot))
        (asks : is_selected p.selected spot ≡ true → P (steps.AskRow spot.uid))
        (sends : is_selected p.selected spot ≡ true → P steps.Send) where
      pub move_meant_any : (told : Finding) → P (move_meant p spot told)
      move_meant_any told = move_meant_by plain did p spot selects asks sends told (λ outcome e. settles outcome)

    pub append_first_any : (selected : Option Selected) (to : List ℕ) → P (select_any to) →
        ((validity uidnext : ℕ) → is_selected_at selected to validity ≡ true → P (steps.Intend (intents.Put to validity uidnext))) →
        (told : Finding) → P (append_first selected told to)
    append_first_any selected to selects means told = append_first_by plain did selected to selects means told

    pub append_judged_any : P steps.Send → (verdict : Verdict) (validity : ℕ) → P (append_judged verdict validity)
    append_judged_any sends verdict validity = append_judged_by plain did sends verdict validity

    module _ (to : List ℕ) (validity uidnext : ℕ) (selects : P (select_under to validity)) where
      module _ (p : Player) (searches : is_selected_at p.selected to validity ≡ true → P (steps.Search uidnext))
          (sends : is_selected_at p.selected to validity ≡ true → P steps.Send) where
        pub append_meant_any : (told : Finding) →
            ((uids : List UidRange) → told ≡ findings.Candidates uids → is_selected_at p.selected to validity ≡ true → P steps.AskIds) →
            P (append_meant p to validity uidnext told)
        append_meant_any told asks =
            append_meant_by plain did to validity uidnext selects p searches sends told asks (λ outcome e. settles outcome)

  pub box_any : P steps.Finished → ((name : List ℕ) → P (select_any name)) → (known : Option Known) → P (step_box known)
  box_any last selects None = last
  box_any last selects (Some known) = selects known.name

-- the same of what a step needs
module _ (P : Need → Type 0) (last : P needs.Finished) (asks : (command : Command) → P (needs.Ask command))
    (sends : (n : ℕ) (command : Command) → P (needs.Send n command)) where
  search_any : (uidnext : ℕ) (action : Action) → P (search_of uidnext action)
  search_any uidnext (actions.Append to flags text id) = asks (question_of uidnext id)
  search_any uidnext action = last

  pub due_search_any : (uidnext : ℕ) (queued : Option Queued) → P (need_search uidnext queued)
  due_search_any uidnext None = last
  due_search_any uidnext (Some q) = search_any uidnext q.action

  pub ids_any : (told : Finding) → P (need_ids told)
  ids_any (findings.Candidates uids) = asks (commands.FetchIds uids)
  ids_any told = last

  sent_any : (n : ℕ) (action : Action) (intent : Intent) → P (send_of n action intent)
  sent_any n (actions.Flag target add flags) (intents.Store name validity uid modseq) = sends n (commands.Store uid modseq add flags)
  sent_any n (actions.Move target other) (intents.Shift from validity uid to) = sends n (commands.Shift uid to)
  sent_any n (actions.Append other flags text id) (intents.Put to validity uidnext) = sends n (commands.Append to flags text)
  sent_any n action intent = last

  meant_any : (n : ℕ) (action : Action) (pending : Option Intent) → P (send_meant n action pending)
  meant_any n action None = last
  meant_any n action (Some intent) = sent_any n action intent

  pub due_sent_any : (n : ℕ) (queued : Option Queued) (pending : Option Intent) → P (need_send n queued pending)
  due_sent_any n None pending = last
  due_sent_any n (Some q) pending = meant_any n q.action pending

-- no step is further from the end than a SELECT
pub at_most : (step : Step) → rank step ≤ 7
at_most steps.Learn = omega arith
at_most (steps.Select name under) = omega arith
at_most (steps.AskRow uid) = omega arith
at_most (steps.Search uidnext) = omega arith
at_most steps.AskIds = omega arith
at_most (steps.Intend intent) = omega arith
at_most (steps.Settle outcome) = omega arith
at_most steps.Send = omega arith
at_most steps.Finished = omega arith

pub add_less : (r s t a c : ℕ) → r < s → r + t + a + c < s + t + a + c
add_less r s t a c h = omega (arith, h)

-- where nothing is to be recorded, the step is that of the action or of the mailbox
pub unlearned : (p : Player) (b : Meaning) → p.learns ≡ None → step_of p b ≡ step_due p b (due_action b.queue)
unlearned p b e = ap (λ (learns : Option Resynced). step_learn p b learns) e

pub rank_unlearned : (p : Player) (b : Meaning) → p.learns ≡ None → rank_of p b p.learns ≡ rank (step_due p b (due_action b.queue))
rank_unlearned p b e = ap (λ (learns : Option Resynced). rank_of p b learns) e ∙ ap rank (unlearned p b e)

-- the step in the mailbox that is selected
pub below_boxed : (n : ℕ) (selected : Option Selected) (meant : Bool) (spot : Spot) (step : Step) → is_selected selected spot ≡ true → rank step < n →
    rank (in_box selected meant spot step) < n
below_boxed n selected meant spot step t h =
    subst (λ (s : Step). rank s < n)
    (sym (cond-true (is_selected selected spot) step (elsewhere meant (above_at selected spot.name spot.validity) spot.name spot.validity) t)) h

pub below_selected : (n : ℕ) (p : Player) (to : List ℕ) (validity uidnext : ℕ) (told : Finding) → is_selected_at p.selected to validity ≡ true →
    rank (append_again p.resumed told to validity uidnext) < n → rank (append_in_box p to validity uidnext told) < n
below_selected n p to validity uidnext told t h =
    subst (λ (s : Step). rank s < n)
    (sym (cond-true (is_selected_at p.selected to validity) (append_again p.resumed told to validity uidnext)
    (elsewhere true (above_at p.selected to validity) to validity) t)) h
