-- An intent is recorded, and its command sent, only where its mailbox is selected under its UIDVALIDITY; and while this run's intent is pending no
-- mailbox is selected.
use Rattle.std.proofs.Common.{Bool, List, None, Option, Some, ap, false, refl, subst, sym, true, ℕ, ◌∙◌, ◌≡◌}
use Rattle.std.proofs.lemmas.Bool.{both_ways, cond-true}
use Rattle.std.specs.Prelude.{slice_get}
use Rattle.action_queue.specs.Book.{Meaning}
use Rattle.action_queue.specs.Queues.{due_action}
use Rattle.action_queue.specs.Targets.{resolved}
use Rattle.action_queue.specs.declared.action.Action.{Action}
use Rattle.action_queue.specs.declared.found.Found.{Found}
use Rattle.action_queue.specs.declared.intent.Intent.{Intent}
use Rattle.action_queue.specs.declared.queued.Queued.{Queued}
use Rattle.action_queue.specs.declared.target.Target.{Target}
use Rattle.playback.proofs.Endings.{suited_is}
use Rattle.book_laws.proofs.Queueing.{Suited}
use Rattle.playback.proofs.Ranks.{append_first_any, append_meant_any, box_any, boxed, flag_first_any, flag_meant_any, move_first_any, move_meant_any}
use Rattle.book_laws.specs.Open.{intent_name, intent_validity}
use Rattle.book_laws.specs.Sound.{HasIntent, IsSound}
use Rattle.playback.specs.Steps.{above_at, append_again, append_in_box, append_meant, elsewhere, is_selected_at}
use Rattle.playback.specs.Steps.{step_action, step_append, step_due, step_flag_at, step_flag_found, step_learn, step_move_at, step_move_found}
use Rattle.playback.specs.declared.finding.Finding.{Finding}
use Rattle.playback.specs.declared.finding.Resynced.{Resynced}
use Rattle.playback.specs.declared.finding.Selected.{Selected}
use Rattle.playback.specs.declared.finding.Spot.{Spot}
use Rattle.playback.specs.declared.player.Player.{Player}
use Rattle.playback.specs.declared.step.Step.{Step}
use Rattle.action_queue.specs.declared.action.Action.TheVariants as actions
use Rattle.action_queue.specs.declared.found.Found.TheVariants as found
use Rattle.action_queue.specs.declared.intent.Intent.TheVariants as intents
use Rattle.playback.specs.declared.finding.Finding.TheVariants as findings
use Rattle.playback.specs.declared.step.Step.TheVariants as steps

-- of a step that records an intent: its mailbox is selected so
abbrev OnIntend : Option Selected → Step → Type 0
OnIntend selected (steps.Intend intent) = is_selected_at selected (intent_name intent) (intent_validity intent) ≡ true
OnIntend selected step = Unit {0}

module _ (p : Player) (b : Meaning) where
  abbrev Is : Step → Type 0
  Is step = OnIntend p.selected step

  flag_at : (pending : Option Intent) (spot : Spot) → Is (step_flag_at p pending spot)
  flag_at None spot =
      boxed Is p.selected false spot _ (λ t. flag_first_any Is (λ outcome. tt) spot tt (λ modseq. t) p.told) (λ f. tt) (λ n. tt)
  flag_at (Some (intents.Store name validity uid modseq)) spot =
      flag_meant_any Is (λ outcome. tt) p modseq spot (λ f. tt) (λ t. tt) (λ t. tt) p.told
  flag_at (Some (intents.Shift from validity uid to)) spot = tt
  flag_at (Some (intents.Put to validity uidnext)) spot = tt

  flag_in : (pending : Option Intent) (place : Found) → Is (step_flag_found p pending place)
  flag_in pending (found.Real name validity uid) = flag_at pending (record { name = name; validity = validity; uid = uid })
  flag_in pending (found.NotYet by) = tt
  flag_in pending (found.Never by) = tt

  move_at : (pending : Option Intent) (spot : Spot) (to : List ℕ) → Is (step_move_at p pending spot to)
  move_at None spot to = boxed Is p.selected false spot _ (λ t. move_first_any Is (λ outcome. tt) spot to tt t p.told) (λ f. tt) (λ n. tt)
  move_at (Some (intents.Shift from validity uid other)) spot to = move_meant_any Is (λ outcome. tt) p spot (λ f. tt) (λ t. tt) (λ t. tt) p.told
  move_at (Some (intents.Store name validity uid modseq)) spot to = tt
  move_at (Some (intents.Put other validity uidnext)) spot to = tt

  move_in : (pending : Option Intent) (to : List ℕ) (place : Found) → Is (step_move_found p pending to place)
  move_in pending to (found.Real name validity uid) = move_at pending (record { name = name; validity = validity; uid = uid }) to
  move_in pending to (found.NotYet by) = tt
  move_in pending to (found.Never by) = tt

  append_in : (pending : Option Intent) (to : List ℕ) → Is (step_append p pending to)
  append_in None to = append_first_any Is (λ outcome. tt) p.selected to tt (λ validity uidnext t. t) p.told
  append_in (Some (intents.Put other validity uidnext)) to =
      append_meant_any Is (λ outcome. tt) to validity uidnext tt p (λ t. tt) (λ t. tt) p.told (λ uids e t. tt)
  append_in (Some (intents.Store name validity uid modseq)) to = tt
  append_in (Some (intents.Shift from validity uid other)) to = tt

  action_in : (action : Action) → Is (step_action p b action)
  action_in (actions.Flag target add flags) = flag_in b.pending (resolved b.queue target)
  action_in (actions.Move target to) = move_in b.pending to (resolved b.queue target)
  action_in (actions.Append to flags text id) = append_in b.pending to

  due_in : (o : Option Queued) → Is (step_due p b o)
  due_in None = box_any Is tt (λ name. tt) (slice_get b.boxes p.resynced)
  due_in (Some q) = action_in q.action

  learn_in : (learns : Option Resynced) → Is (step_learn p b learns)
  learn_in None = due_in (due_action b.queue)
  learn_in (Some told) = tt

  pub intend_placed : (intent : Intent) (learns : Option Resynced) → step_learn p b learns ≡ steps.Intend intent →
      is_selected_at p.selected (intent_name intent) (intent_validity intent) ≡ true
  intend_placed intent learns e = subst Is e (learn_in learns)

-- of a step that selects a mailbox there is nothing to say
abbrev NoSelect : Step → Type 0
NoSelect (steps.Select name under) = ⊥
NoSelect step = Unit {0}

module _ (p : Player) (b : Meaning) (sound : IsSound b) (ours : p.resumed ≡ false) (intent : Intent) (pending : b.pending ≡ Some intent)
    (that : is_selected_at p.selected (intent_name intent) (intent_validity intent) ≡ true) where
  never : (name : List ℕ) (validity : ℕ) → name ≡ intent_name intent → validity ≡ intent_validity intent →
      is_selected_at p.selected name validity ≡ false → ⊥
  never name validity n v f =
      absurd
      (both_ways (is_selected_at p.selected (intent_name intent) (intent_validity intent))
      (subst (λ (x : List ℕ). is_selected_at p.selected x (intent_validity intent) ≡ false) n
      (subst (λ (x : ℕ). is_selected_at p.selected name x ≡ false) v f)) that)

  flag_stays : (target : Target) (place : Found) → (i : Intent) → i ≡ intent → resolved b.queue target ≡ place →
      (add : Bool) (flags : List (List ℕ)) → Suited b.queue (actions.Flag target add flags) i → NoSelect (step_flag_found p (Some i) place)
  flag_stays target place (intents.Store name validity uid modseq) is r add flags s =
      subst (λ (f : Found). NoSelect (step_flag_found p (Some (intents.Store name validity uid modseq)) f)) (sym s ∙ r)
      (flag_meant_any NoSelect (λ outcome. tt) p modseq (record { name = name; validity = validity; uid = uid })
      (λ f. never name validity (ap intent_name is) (ap intent_validity is) f) (λ t. tt) (λ t. tt) p.told)
  flag_stays target place (intents.Shift from validity uid to) is r add flags s = absurd s
  flag_stays target place (intents.Put to validity uidnext) is r add flags s = absurd s

  move_stays : (target : Target) (to : List ℕ) (place : Found) → (i : Intent) → i ≡ intent → resolved b.queue target ≡ place →
      Suited b.queue (actions.Move target to) i → NoSelect (step_move_found p (Some i) to place)
  move_stays target to place (intents.Shift from validity uid other) is r s =
      subst (λ (f : Found). NoSelect (step_move_found p (Some (intents.Shift from validity uid other)) to f)) (sym s.0 ∙ r)
      (move_meant_any NoSelect (λ outcome. tt) p (record { name = from; validity = validity; uid = uid })
      (λ f. never from validity (ap intent_name is) (ap intent_validity is) f) (λ t. tt) (λ t. tt) p.told)
  move_stays target to place (intents.Store name validity uid modseq) is r s = absurd s
  move_stays target to place (intents.Put other validity uidnext) is r s = absurd s

  again_here : (resumed : Bool) → resumed ≡ false → (told : Finding) (to : List ℕ) (validity uidnext : ℕ) →
      NoSelect (append_again resumed told to validity uidnext)
  again_here false e told to validity uidnext = tt
  again_here true e told to validity uidnext = absurd cc

  append_here : (to : List ℕ) (validity uidnext : ℕ) (told : Finding) → is_selected_at p.selected to validity ≡ true →
      NoSelect (append_in_box p to validity uidnext told)
  append_here to validity uidnext told t =
      subst NoSelect
      (sym (cond-true (is_selected_at p.selected to validity) (append_again p.resumed told to validity uidnext)
      (elsewhere true (above_at p.selected to validity) to validity) t))
      (again_here p.resumed ours told to validity uidnext)

  append_open_stays : (to : List ℕ) (validity uidnext : ℕ) (told : Finding) → is_selected_at p.selected to validity ≡ true →
      NoSelect (append_meant p to validity uidnext told)
  append_open_stays to validity uidnext (findings.Ended outcome) t = tt
  append_open_stays to validity uidnext findings.Nothing t = append_here to validity uidnext findings.Nothing t
  append_open_stays to validity uidnext findings.NoRow t = append_here to validity uidnext findings.NoRow t
  append_open_stays to validity uidnext (findings.Row modseq so) t = append_here to validity uidnext (findings.Row modseq so) t
  append_open_stays to validity uidnext findings.Barred t = append_here to validity uidnext findings.Barred t
  append_open_stays to validity uidnext (findings.Next v l) t = append_here to validity uidnext (findings.Next v l) t
  append_open_stays to validity uidnext (findings.Candidates uids) t = append_here to validity uidnext (findings.Candidates uids) t
  append_open_stays to validity uidnext (findings.Probed verdict) t = append_here to validity uidnext (findings.Probed verdict) t

  append_stays : (to : List ℕ) (i : Intent) → i ≡ intent → (flags : List (List ℕ)) (text id : List ℕ) →
      Suited b.queue (actions.Append to flags text id) i → NoSelect (step_append p (Some i) to)
  append_stays to (intents.Put other validity uidnext) is flags text id s =
      append_open_stays to validity uidnext p.told
      (subst (λ (x : List ℕ). is_selected_at p.selected x validity ≡ true) s
      (subst (λ (x : Intent). is_selected_at p.selected (intent_name x) (intent_validity x) ≡ true) (sym is) that))
  append_stays to (intents.Store name validity uid modseq) is flags text id s = absurd s
  append_stays to (intents.Shift from validity uid other) is flags text id s = absurd s

  action_stays : (action : Action) → Suited b.queue action intent → NoSelect (step_action p b action)
  action_stays (actions.Flag target add flags) s =
      subst (λ (o : Option Intent). NoSelect (step_flag_found p o (resolved b.queue target))) (sym pending)
      (flag_stays target (resolved b.queue target) intent refl refl add flags s)
  action_stays (actions.Move target to) s =
      subst (λ (o : Option Intent). NoSelect (step_move_found p o to (resolved b.queue target))) (sym pending)
      (move_stays target to (resolved b.queue target) intent refl refl s)
  action_stays (actions.Append to flags text id) s =
      subst (λ (o : Option Intent). NoSelect (step_append p o to)) (sym pending) (append_stays to intent refl flags text id s)

  due_stays : NoSelect (step_due p b (due_action b.queue))
  due_stays =
      let has : HasIntent b intent = sound.intent intent pending in
      subst (λ (o : Option Queued). NoSelect (step_due p b o)) (sym has.there)
      (action_stays has.queued.action (suited_is b sound has.queued has.there intent pending))

  learn_stays : (learns : Option Resynced) → NoSelect (step_learn p b learns)
  learn_stays None = due_stays
  learn_stays (Some told) = tt

  pub no_select : (learns : Option Resynced) (name : List ℕ) (under : Option ℕ) → step_learn p b learns ≡ steps.Select name under → ⊥
  no_select learns name under e = subst NoSelect e (learn_stays learns)

-- where the command of the pending intent is sent, its mailbox is selected
module _ (p : Player) (b : Meaning) (sound : IsSound b) (intent : Intent) (pending : b.pending ≡ Some intent) where
  abbrev There : Step → Type 0
  There steps.Send = is_selected_at p.selected (intent_name intent) (intent_validity intent) ≡ true
  There step = Unit {0}

  here : (name : List ℕ) (validity : ℕ) → name ≡ intent_name intent → validity ≡ intent_validity intent →
      is_selected_at p.selected name validity ≡ true → is_selected_at p.selected (intent_name intent) (intent_validity intent) ≡ true
  here name validity n v t =
      subst (λ (x : List ℕ). is_selected_at p.selected x (intent_validity intent) ≡ true) n
      (subst (λ (x : ℕ). is_selected_at p.selected name x ≡ true) v t)

  flag_sends : (target : Target) (place : Found) → (i : Intent) → i ≡ intent → resolved b.queue target ≡ place →
      (add : Bool) (flags : List (List ℕ)) → Suited b.queue (actions.Flag target add flags) i → There (step_flag_found p (Some i) place)
  flag_sends target place (intents.Store name validity uid modseq) is r add flags s =
      subst (λ (f : Found). There (step_flag_found p (Some (intents.Store name validity uid modseq)) f)) (sym s ∙ r)
      (flag_meant_any There (λ outcome. tt) p modseq (record { name = name; validity = validity; uid = uid }) (λ f. tt) (λ t. tt)
      (here name validity (ap intent_name is) (ap intent_validity is)) p.told)
  flag_sends target place (intents.Shift from validity uid to) is r add flags s = absurd s
  flag_sends target place (intents.Put to validity uidnext) is r add flags s = absurd s

  move_sends : (target : Target) (to : List ℕ) (place : Found) → (i : Intent) → i ≡ intent → resolved b.queue target ≡ place →
      Suited b.queue (actions.Move target to) i → There (step_move_found p (Some i) to place)
  move_sends target to place (intents.Shift from validity uid other) is r s =
      subst (λ (f : Found). There (step_move_found p (Some (intents.Shift from validity uid other)) to f)) (sym s.0 ∙ r)
      (move_meant_any There (λ outcome. tt) p (record { name = from; validity = validity; uid = uid }) (λ f. tt) (λ t. tt)
      (here from validity (ap intent_name is) (ap intent_validity is)) p.told)
  move_sends target to place (intents.Store name validity uid modseq) is r s = absurd s
  move_sends target to place (intents.Put other validity uidnext) is r s = absurd s

  append_sends : (to : List ℕ) (i : Intent) → i ≡ intent → (flags : List (List ℕ)) (text id : List ℕ) →
      Suited b.queue (actions.Append to flags text id) i → There (step_append p (Some i) to)
  append_sends to (intents.Put other validity uidnext) is flags text id s =
      append_meant_any There (λ outcome. tt) to validity uidnext tt p (λ t. tt)
      (here to validity (sym s ∙ ap intent_name is) (ap intent_validity is)) p.told (λ uids e t. tt)
  append_sends to (intents.Store name validity uid modseq) is flags text id s = absurd s
  append_sends to (intents.Shift from validity uid other) is flags text id s = absurd s

  action_sends : (action : Action) → Suited b.queue action intent → There (step_action p b action)
  action_sends (actions.Flag target add flags) s =
      subst (λ (o : Option Intent). There (step_flag_found p o (resolved b.queue target))) (sym pending)
      (flag_sends target (resolved b.queue target) intent refl refl add flags s)
  action_sends (actions.Move target to) s =
      subst (λ (o : Option Intent). There (step_move_found p o to (resolved b.queue target))) (sym pending)
      (move_sends target to (resolved b.queue target) intent refl refl s)
  action_sends (actions.Append to flags text id) s =
      subst (λ (o : Option Intent). There (step_append p o to)) (sym pending) (append_sends to intent refl flags text id s)

  due_sends : There (step_due p b (due_action b.queue))
  due_sends =
      let has : HasIntent b intent = sound.intent intent pending in
      subst (λ (o : Option Queued). There (step_due p b o)) (sym has.there)
      (action_sends has.queued.action (suited_is b sound has.queued has.there intent pending))

  learn_sends : (learns : Option Resynced) → There (step_learn p b learns)
  learn_sends None = due_sends
  learn_sends (Some told) = tt

  pub send_placed : (learns : Option Resynced) → step_learn p b learns ≡ steps.Send →
      is_selected_at p.selected (intent_name intent) (intent_validity intent) ≡ true
  send_placed learns e = subst There e (learn_sends learns)
