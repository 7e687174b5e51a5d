-- What a command that is needed is for.
use Rattle.action_queue.specs.Book.{Meaning, known_at}
use Rattle.action_queue.specs.Queues.{due, due_action, tries_due}
use Rattle.action_queue.specs.Rules.{is_unknown, is_unknown_action, suits}
use Rattle.action_queue.specs.Targets.{resolved}
use Rattle.action_queue.specs.declared.action.Action.{Action}
use Rattle.action_queue.specs.declared.book.Known.{Known}
use Rattle.action_queue.specs.declared.found.Found.{Found}
use Rattle.action_queue.specs.declared.intent.Intent.{Intent}
use Rattle.action_queue.specs.declared.queued.Queued.{Queued}
use Rattle.action_queue.specs.declared.target.Target.{Target}
use Rattle.append_probe.specs.Question.{question_of}
use Rattle.append_probe.specs.declared.verdict.Verdict.{Verdict}
use Rattle.imap_model.proofs.Finding.{names_same, same_name}
use Rattle.imap_model.specs.Carrying.{Waiting}
use Rattle.imap_model.specs.Mutating.{is_mutating}
use Rattle.book_laws.proofs.Resolving.{of_flag, of_move}
use Rattle.playback.proofs.RowFacts.{row_mark, was_map}
use Rattle.playback.proofs.Elsewhere.{elsewhere_any}
use Rattle.playback.specs.Steps.{above_at, elsewhere}
use Rattle.playback.specs.Knows.{IsNeeded, IsTold, Knows, RowTold, SelectsBox, WasSeen}
use Rattle.playback.proofs.Trying.{end_any}
use Rattle.playback.specs.Needs.{again, due_id, need_for, need_ids, need_learn, need_of, need_search, need_send, search_of, send_meant, send_of}
use Rattle.book_laws.specs.Resolved.{Resolves}
use Rattle.book_laws.specs.Sound.{HasIntent, IsSound}
use Rattle.playback.specs.Steps.{append_again, append_first, append_in_box, append_judged, append_meant, append_open, conflict}
use Rattle.playback.specs.Steps.{flag_again, flag_first, flag_judged, flag_meant, flag_new, flag_open, in_box, is_selected}
use Rattle.playback.specs.Steps.{is_selected_at, move_again, move_first, move_meant, move_open, select_any, select_box}
use Rattle.playback.specs.Steps.{step_action, step_append, step_box, step_due, step_flag_at, step_flag_found, step_learn, step_move_at}
use Rattle.playback.specs.Steps.{step_move_found, step_of}
use Rattle.playback.specs.Why.{IsAbout, RowAt, RowNotSo, WhyIntent}
use Rattle.playback.specs.Worlds.{World, name_of}
use Rattle.playback.specs.declared.finding.Finding.{Finding}
use Rattle.playback.specs.declared.finding.Resynced.{Resynced}
use Rattle.playback.specs.declared.finding.Selected.{Selected}
use Rattle.playback.specs.declared.finding.Spot.{Spot}
use Rattle.playback.specs.declared.need.Need.{Need}
use Rattle.playback.specs.declared.player.Player.{Player}
use Rattle.playback.specs.declared.step.Step.{Step}
use Rattle.std.proofs.Common.{Bool, List, [], None, Option, Some, ap, cond, eqb, false, inl, inr, refl, subst, suc, sym, true, zero, ℕ}
use Rattle.std.proofs.Common.{◌∙◌, ◌∷◌, ◌≡◌}
use Rattle.std.proofs.lemmas.Bool.{cond-true, cond_both, eqb-true}
use Rattle.std.proofs.lemmas.Option.{same_Some}
use Rattle.std.specs.Prelude.{bytes_eq, is_none, slice_get}
use Rattle.uid_sets.specs.declared.uid.UidRange.{UidRange}
use Rattle.action_queue.specs.declared.action.Action.TheVariants as actions
use Rattle.imap_model.specs.declared.command.Command.TheVariants as commands
use Rattle.playback.specs.declared.finding.Finding.TheVariants as findings
use Rattle.action_queue.specs.declared.found.Found.TheVariants as found
use Rattle.action_queue.specs.declared.intent.Intent.TheVariants as intents
use Rattle.action_queue.specs.declared.outcome.Kind.TheVariants as kinds
use Rattle.playback.specs.declared.need.Need.TheVariants as needs
use Rattle.playback.specs.declared.step.Step.TheVariants as steps
use Rattle.append_probe.specs.declared.verdict.Verdict.TheVariants as verdicts

-- the message of the action that is due, in the mailbox that is selected
pub record OfMessage (uid : ℕ) (p : Player) (b : Meaning) : Type 0 where
  pub queued : Queued
  pub there : due_action b.queue ≡ Some queued
  pub name : List ℕ
  pub validity : ℕ
  pub about : IsAbout b.queue queued.action name validity uid
  pub that : is_selected_at p.selected name validity ≡ true

-- the append that is due and whose intent is pending, in the mailbox that is selected
pub record OfPending (uidnext : ℕ) (p : Player) (b : Meaning) : Type 0 where
  pub queued : Queued
  pub there : due_action b.queue ≡ Some queued
  pub to : List ℕ
  pub flags : List (List ℕ)
  pub text : List ℕ
  pub id : List ℕ
  pub action : queued.action ≡ actions.Append to flags text id
  pub validity : ℕ
  pub pending : b.pending ≡ Some (intents.Put to validity uidnext)
  pub that : is_selected_at p.selected to validity ≡ true

-- and its candidates
pub record OfCandidates (p : Player) (b : Meaning) : Type 0 where
  pub uids : List UidRange
  pub told : p.told ≡ findings.Candidates uids
  pub uidnext : ℕ
  pub append : OfPending uidnext p b

-- the intent that is pending for the action that is due
pub record OfSend (Seen : Intent → Type 0) (b : Meaning) : Type 0 where
  pub queued : Queued
  pub there : due_action b.queue ≡ Some queued
  pub intent : Intent
  pub pending : b.pending ≡ Some intent
  pub seen : Seen intent

-- the mailbox is one of the book's, and of an append that is due it is that into which it puts a message
pub record OfBox (name : List ℕ) (b : Meaning) : Type 0 where
  pub known : is_unknown b.boxes name ≡ false
  pub of_append : (q : Queued) (to : List ℕ) (flags : List (List ℕ)) (text id : List ℕ) → due_action b.queue ≡ Some q →
      q.action ≡ actions.Append to flags text id → name ≡ to

-- what a step rests on that asks for a command
abbrev pub Ground : (Intent → Type 0) → Player → Meaning → Step → Type 0
Ground Seen p b steps.Learn = Unit {0}
Ground Seen p b (steps.Select name under) = OfBox name b
Ground Seen p b (steps.AskRow uid) = OfMessage uid p b
Ground Seen p b (steps.Search uidnext) = OfPending uidnext p b
Ground Seen p b steps.AskIds = OfCandidates p b
Ground Seen p b (steps.Intend intent) = Unit {0}
Ground Seen p b (steps.Settle outcome) = Unit {0}
Ground Seen p b steps.Send = OfSend Seen b
Ground Seen p b steps.Finished = Unit {0}

-- a mailbox of the book's list is known
place_known : (boxes : List Known) (n : ℕ) (k : Known) → slice_get boxes n ≡ Some k → is_unknown boxes k.name ≡ false
place_known [] n k = λ e. absurd (cc)
place_known (x ∷ xs) zero k = λ e.
    ap (λ (o : Option Known). is_none o) (cond-true (bytes_eq x.name k.name) (Some x) (known_at k.name xs)
    (names_same x.name k.name (ap (λ (y : Known). y.name) (same_Some x k e))))
place_known (x ∷ xs) (suc n) k = λ e.
    cond_both (bytes_eq x.name k.name) (Some x) (known_at k.name xs) (λ (o : Option Known). is_none o ≡ false) (λ _. refl)
    (λ _. place_known xs n k e)

-- so is that of a target that resolves
resolves_known : (b : Meaning) (target : Target) (spot : Spot) → Resolves b target →
    resolved b.queue target ≡ found.Real spot.name spot.validity spot.uid →
    is_unknown b.boxes spot.name ≡ false
resolves_known b target spot (inl m) e =
    let is : found.Real m.name m.validity m.uid ≡ found.Real spot.name spot.validity spot.uid = sym m.is ∙ e in
    let n : m.name ≡ spot.name = cc in
    subst (λ (x : List ℕ). is_unknown b.boxes x ≡ false) n m.known
resolves_known b target spot (inr never) e =
    let is : found.Never never.by ≡ found.Real spot.name spot.validity spot.uid = sym never.is ∙ e in
    absurd (cc)

module _ (Seen : Intent → Type 0) (p : Player) (b : Meaning) (sound : IsSound b)
    (fresh : p.resumed ≡ false → (intent : Intent) → b.pending ≡ Some intent → Seen intent)
    (again : (name : List ℕ) (validity uid modseq : ℕ) (so : Bool) → p.told ≡ findings.Row modseq so →
    Seen (intents.Store name validity uid modseq))
    (moves : (from : List ℕ) (validity uid : ℕ) (to : List ℕ) → Seen (intents.Shift from validity uid to))
    (puts : (to : List ℕ) (validity uidnext : ℕ) → Seen (intents.Put to validity uidnext)) where
  abbrev Is : Step → Type 0
  Is step = Ground Seen p b step

  module _ (q : Queued) (e : due_action b.queue ≡ Some q) where
    sends : (intent : Intent) → b.pending ≡ Some intent → Seen intent → Is steps.Send
    sends intent h s = record { queued = q; there = e; intent = intent; pending = h; seen = s }

    same_action : (r : Queued) → due_action b.queue ≡ Some r → r.action ≡ q.action
    same_action r there = ap (λ (x : Queued). x.action) (same_Some r q (sym there ∙ e))

    -- a message
    module _ (spot : Spot) (known : is_unknown b.boxes spot.name ≡ false)
        (about : IsAbout b.queue q.action spot.name spot.validity spot.uid) where
      no_append : (to : List ℕ) (flags : List (List ℕ)) (text id : List ℕ) → q.action ≡ actions.Append to flags text id → ⊥
      no_append to flags text id is = subst (λ (a : Action). IsAbout b.queue a spot.name spot.validity spot.uid) is about

      box : Is (select_box spot)
      box = record {
        known = known;
        of_append = λ r to flags text id there is. absurd (no_append to flags text id (sym (same_action r there) ∙ is));
      }

      asks : is_selected p.selected spot ≡ true → Is (steps.AskRow spot.uid)
      asks that = record { queued = q; there = e; name = spot.name; validity = spot.validity; about = about; that = that }

      here : (meant : Bool) (step : Step) → (is_selected p.selected spot ≡ true → Is step) → Is (in_box p.selected meant spot step)
      here meant step f =
          cond_both (is_selected p.selected spot) step (elsewhere meant (above_at p.selected spot.name spot.validity) spot.name spot.validity)
          (λ (x : Step). Is x) f (λ _. elsewhere_any (λ (x : Step). Is x) p.selected meant spot.name spot.validity box (λ n a. tt))

      -- a flag action
      new_for : (modseq : ℕ) (so : Bool) → Is (flag_new modseq so spot)
      new_for modseq true = tt
      new_for modseq false = tt

      first_for : (told : Finding) → is_selected p.selected spot ≡ true → Is (flag_first told spot)
      first_for findings.NoRow t = tt
      first_for (findings.Row modseq so) t = new_for modseq so
      first_for findings.Barred t = tt
      first_for told t = asks t

      module _ (name : List ℕ) (validity uid mark : ℕ) (h : b.pending ≡ Some (intents.Store name validity uid mark)) where
        unsure_for : (modseq : ℕ) (so : Bool) → Is (cond so (conflict kinds.FoundSo) (conflict (kinds.StoreUnsure mark modseq)))
        unsure_for modseq true = tt
        unsure_for modseq false = tt

        judged_for : (modseq : ℕ) (so : Bool) → p.told ≡ findings.Row modseq so → Is (flag_judged mark modseq so)
        judged_for modseq so t =
            cond_both (eqb modseq mark) steps.Send (cond so (conflict kinds.FoundSo) (conflict (kinds.StoreUnsure mark modseq)))
            (λ (x : Step). Is x)
            (λ same. sends (intents.Store name validity uid mark) h
            (subst (λ (k : ℕ). Seen (intents.Store name validity uid k)) (eqb-true modseq mark same) (again name validity uid modseq so t)))
            (λ _. unsure_for modseq so)

        open_for : (told : Finding) → p.told ≡ told → is_selected p.selected spot ≡ true → Is (flag_open mark told spot)
        open_for findings.NoRow t s = tt
        open_for (findings.Row modseq so) t s = judged_for modseq so t
        open_for told t s = asks s

        again_for : (resumed : Bool) → p.resumed ≡ resumed → (told : Finding) → p.told ≡ told → is_selected p.selected spot ≡ true →
            Is (flag_again resumed mark told spot)
        again_for false r told t s = sends (intents.Store name validity uid mark) h (fresh r (intents.Store name validity uid mark) h)
        again_for true r told t s = open_for told t s

        meant_for : (told : Finding) → p.told ≡ told → Is (flag_meant p mark spot told)
        meant_for (findings.Ended outcome) t = tt
        meant_for told t = here true (flag_again p.resumed mark told spot) (λ s. again_for p.resumed refl told t s)

      flag_at_for : (pending : Option Intent) → b.pending ≡ pending → Is (step_flag_at p pending spot)
      flag_at_for None h = here false (flag_first p.told spot) (λ s. first_for p.told s)
      flag_at_for (Some (intents.Store name validity uid modseq)) h = meant_for name validity uid modseq h p.told refl
      flag_at_for (Some (intents.Shift from validity uid to)) h = box
      flag_at_for (Some (intents.Put to validity uidnext)) h = box

      -- a move
      move_first_for : (told : Finding) (to : List ℕ) → is_selected p.selected spot ≡ true → Is (move_first told spot to)
      move_first_for findings.NoRow to t = tt
      move_first_for (findings.Row modseq so) to t = tt
      move_first_for told to t = asks t

      module _ (from : List ℕ) (validity uid : ℕ) (other : List ℕ) (h : b.pending ≡ Some (intents.Shift from validity uid other)) where
        move_open_for : (told : Finding) → is_selected p.selected spot ≡ true → Is (move_open told spot)
        move_open_for findings.NoRow s = tt
        move_open_for (findings.Row modseq so) s = sends (intents.Shift from validity uid other) h (moves from validity uid other)
        move_open_for told s = asks s

        move_again_for : (resumed : Bool) (told : Finding) → is_selected p.selected spot ≡ true → Is (move_again resumed told spot)
        move_again_for false told s = sends (intents.Shift from validity uid other) h (moves from validity uid other)
        move_again_for true told s = move_open_for told s

        move_meant_for : (told : Finding) → Is (move_meant p spot told)
        move_meant_for (findings.Ended outcome) = tt
        move_meant_for told = here true (move_again p.resumed told spot) (λ s. move_again_for p.resumed told s)

      move_at_for : (to : List ℕ) (pending : Option Intent) → b.pending ≡ pending → Is (step_move_at p pending spot to)
      move_at_for to None h = here false (move_first p.told spot to) (λ s. move_first_for p.told to s)
      move_at_for to (Some (intents.Store name validity uid modseq)) h = box
      move_at_for to (Some (intents.Shift from validity uid other)) h = move_meant_for from validity uid other h p.told
      move_at_for to (Some (intents.Put other validity uidnext)) h = box

    -- the message that a target resolves to
    flag_found_for : (target : Target) (add : Bool) (flags : List (List ℕ)) → q.action ≡ actions.Flag target add flags → (f : Found) →
        resolved b.queue target ≡ f → Is (step_flag_found p b.pending f)
    flag_found_for target add flags a (found.Real name validity uid) r =
        flag_at_for (record { name = name; validity = validity; uid = uid })
        (resolves_known b target (record { name = name; validity = validity; uid = uid }) (of_flag b sound q e target add flags a) r)
        (subst (λ (x : Action). IsAbout b.queue x name validity uid) (sym a) r) b.pending refl
    flag_found_for target add flags a (found.NotYet by) r = tt
    flag_found_for target add flags a (found.Never by) r = tt

    move_found_for : (target : Target) (to : List ℕ) → q.action ≡ actions.Move target to → (f : Found) → resolved b.queue target ≡ f →
        Is (step_move_found p b.pending to f)
    move_found_for target to a (found.Real name validity uid) r =
        move_at_for (record { name = name; validity = validity; uid = uid })
        (resolves_known b target (record { name = name; validity = validity; uid = uid }) (of_move b sound q e target to a) r)
        (subst (λ (x : Action). IsAbout b.queue x name validity uid) (sym a) r) to b.pending refl
    move_found_for target to a (found.NotYet by) r = tt
    move_found_for target to a (found.Never by) r = tt

    -- an append
    module _ (to : List ℕ) (flags : List (List ℕ)) (text id : List ℕ) (a : q.action ≡ actions.Append to flags text id) where
      same_box : (r : Queued) (other : List ℕ) (others : List (List ℕ)) (content mark : List ℕ) → due_action b.queue ≡ Some r →
          r.action ≡ actions.Append other others content mark → to ≡ other
      same_box r other others content mark there is =
          let one : actions.Append to flags text id ≡ actions.Append other others content mark = sym a ∙ sym (same_action r there)
          ∙ is in cc

      any : OfBox to b
      any = record {
        known = subst (λ (x : Action). is_unknown_action b.boxes x ≡ false) a (sound.boxes (due b.queue) q e);
        of_append = λ r other others content mark there is. same_box r other others content mark there is;
      }

      append_first_for : (told : Finding) → Is (append_first p.selected told to)
      append_first_for (findings.Next validity uidnext) =
          cond_both (is_selected_at p.selected to validity) (steps.Intend (intents.Put to validity uidnext)) (select_any to)
          (λ (x : Step). Is x)
          (λ _. tt) (λ _. any)
      append_first_for told = any

      module _ (other : List ℕ) (validity uidnext : ℕ) (h : b.pending ≡ Some (intents.Put other validity uidnext)) where
        put_is : b.pending ≡ Some (intents.Put to validity uidnext)
        put_is =
            let i : HasIntent b (intents.Put other validity uidnext) = sound.intent (intents.Put other validity uidnext) h in
            let s : suits b.queue (actions.Append to flags text id) (intents.Put other validity uidnext) ≡ true =
            subst (λ (x : Action). suits b.queue x (intents.Put other validity uidnext) ≡ true)
            (same_action i.queued i.there ∙ a) i.suits_it in
            h ∙ ap (λ (n : List ℕ). Some (intents.Put n validity uidnext)) (same_name other to s)

        module _ (that : is_selected_at p.selected to validity ≡ true) where
          pends : OfPending uidnext p b
          pends = record {
            queued = q;
            there = e;
            to = to;
            flags = flags;
            text = text;
            id = id;
            action = a;
            validity = validity;
            pending = put_is;
            that = that;
          }

          put_sends : Is steps.Send
          put_sends = sends (intents.Put other validity uidnext) h (puts other validity uidnext)

          verdict_for : (verdict : Verdict) → Is (append_judged verdict validity)
          verdict_for verdicts.NotThere = put_sends
          verdict_for (verdicts.There uid) = tt
          verdict_for (verdicts.Several first second) = tt

          append_open_for : (told : Finding) → p.told ≡ told → Is (append_open told to validity uidnext)
          append_open_for (findings.Next old next) t = pends
          append_open_for (findings.Candidates uids) t = record { uids = uids; told = t; uidnext = uidnext; append = pends }
          append_open_for (findings.Probed verdict) t = verdict_for verdict
          append_open_for told t = any

          append_again_for : (resumed : Bool) (told : Finding) → p.told ≡ told → Is (append_again resumed told to validity uidnext)
          append_again_for false told t = put_sends
          append_again_for true told t = append_open_for told t

        append_in_for : (told : Finding) → p.told ≡ told → Is (append_in_box p to validity uidnext told)
        append_in_for told t =
            cond_both (is_selected_at p.selected to validity) (append_again p.resumed told to validity uidnext)
            (elsewhere true (above_at p.selected to validity) to validity) (λ (x : Step). Is x) (λ that. append_again_for that p.resumed told t)
            (λ _. elsewhere_any (λ (x : Step). Is x) p.selected true to validity any (λ n a. tt))

        append_meant_for : (told : Finding) → p.told ≡ told → Is (append_meant p to validity uidnext told)
        append_meant_for (findings.Ended outcome) t = tt
        append_meant_for told t = append_in_for told t

      append_for : (pending : Option Intent) → b.pending ≡ pending → Is (step_append p pending to)
      append_for None h = append_first_for p.told
      append_for (Some (intents.Store name validity uid modseq)) h = any
      append_for (Some (intents.Shift from validity uid other)) h = any
      append_for (Some (intents.Put other validity uidnext)) h = append_meant_for other validity uidnext h p.told refl

    action_for : (action : Action) → q.action ≡ action → Is (step_action p b action)
    action_for (actions.Flag target add flags) a = flag_found_for target add flags a (resolved b.queue target) refl
    action_for (actions.Move target to) a = move_found_for target to a (resolved b.queue target) refl
    action_for (actions.Append to flags text id) a = append_for to flags text id a b.pending refl

  -- the next mailbox
  box_for : due_action b.queue ≡ None → (o : Option Known) → slice_get b.boxes p.resynced ≡ o → Is (step_box o)
  box_for n None e = tt
  box_for n (Some k) e = record {
    known = place_known b.boxes p.resynced k e;
    of_append = λ r to flags text id there is. absurd (let h : None ≡ Some r = sym n ∙ there in cc);
  }

  due_for : (o : Option Queued) → due_action b.queue ≡ o → Is (step_due p b o)
  due_for None e = box_for e (slice_get b.boxes p.resynced) refl
  due_for (Some q) e = action_for q e q.action refl

  learn_for : (o : Option Resynced) → Is (step_learn p b o)
  learn_for None = due_for (due_action b.queue) refl
  learn_for (Some told) = tt

  -- each step rests on what it should
  pub grounded : Ground Seen p b (step_of p b)
  grounded = learn_for p.learns

-- it asks for the row of the message
pub record AsksRow (p : Player) (b : Meaning) (c : Waiting) : Type 0 where
  pub uid : ℕ
  pub step : step_of p b ≡ steps.AskRow uid
  pub message : OfMessage uid p b
  pub command : c.command ≡ commands.FetchRow uid
  pub selected : c.selected ≡ name_of p.selected

-- it searches for the append's Message-ID
pub record Searches (p : Player) (b : Meaning) (c : Waiting) : Type 0 where
  pub uidnext : ℕ
  pub step : step_of p b ≡ steps.Search uidnext
  pub append : OfPending uidnext p b
  pub command : c.command ≡ question_of uidnext append.id
  pub selected : c.selected ≡ name_of p.selected

-- it asks for the Message-ID fields of the candidates
pub record AsksIds (p : Player) (b : Meaning) (c : Waiting) : Type 0 where
  pub step : step_of p b ≡ steps.AskIds
  pub found : OfCandidates p b
  pub command : c.command ≡ commands.FetchIds found.uids
  pub selected : c.selected ≡ name_of p.selected

-- it is the command of the pending intent
pub record SendsIt (p : Player) (b : Meaning) (w : World) (c : Waiting) : Type 0 where
  pub step : step_of p b ≡ steps.Send
  pub sends : OfSend (λ intent. WasSeen intent b w.course) b
  pub command : IsNeeded (send_of (due_id b) sends.queued.action sends.intent) c p.selected b
  pub mutating : is_mutating c.command ≡ true

-- it selects a mailbox of the book
pub record ChoosesBox (p : Player) (b : Meaning) (c : Waiting) : Type 0 where
  pub name : List ℕ
  pub under : Option ℕ
  pub step : step_of p b ≡ steps.Select name under
  pub box : OfBox name b
  pub selects : SelectsBox name b c

pub data Purpose (p : Player) (b : Meaning) (w : World) (c : Waiting) : Type 0 where
  a_row : AsksRow p b c → Purpose p b w c
  an_effect : SendsIt p b w c → Purpose p b w c
  a_box : ChoosesBox p b c → Purpose p b w c
  a_search : Searches p b c → Purpose p b w c
  the_ids : AsksIds p b c → Purpose p b w c

-- the intent's row had its mod-sequence, since the intent was recorded for it
meant_seen : (intent : Intent) (b : Meaning) (w : World) → WhyIntent intent b w.course → WasSeen intent b w.course
meant_seen (intents.Store name validity uid modseq) b w i =
    was_map (RowNotSo (λ k. k ≡ modseq)) (RowAt modseq) b w.course (λ action o h. row_mark modseq false action o h) i
meant_seen (intents.Shift from validity uid to) b w i = tt
meant_seen (intents.Put to validity uidnext) b w i = tt

sent_mutates : (n : ℕ) (action : Action) (intent : Intent) (c : Waiting) (selected : Option Selected) (b : Meaning) →
    IsNeeded (send_of n action intent) c selected b → is_mutating c.command ≡ true
sent_mutates n (actions.Flag target add flags) (intents.Store name validity uid modseq) c selected b s =
    ap (λ (x : Waiting). is_mutating x.command) s.is
sent_mutates n (actions.Flag target add flags) (intents.Shift from validity uid to) c selected b s = absurd s
sent_mutates n (actions.Flag target add flags) (intents.Put to validity uidnext) c selected b s = absurd s
sent_mutates n (actions.Move target other) (intents.Store name validity uid modseq) c selected b s = absurd s
sent_mutates n (actions.Move target other) (intents.Shift from validity uid to) c selected b s =
    ap (λ (x : Waiting). is_mutating x.command) s.is
sent_mutates n (actions.Move target other) (intents.Put to validity uidnext) c selected b s = absurd s
sent_mutates n (actions.Append other flags text id) (intents.Store name validity uid modseq) c selected b s = absurd s
sent_mutates n (actions.Append other flags text id) (intents.Shift from validity uid to) c selected b s = absurd s
sent_mutates n (actions.Append other flags text id) (intents.Put to validity uidnext) c selected b s =
    ap (λ (x : Waiting). is_mutating x.command) s.is

module _ (p : Player) (b : Meaning) (w : World) (c : Waiting) where
  abbrev Seen : Intent → Type 0
  Seen intent = WasSeen intent b w.course

  search_for : (uidnext : ℕ) → step_of p b ≡ steps.Search uidnext → OfPending uidnext p b →
      IsNeeded (need_search uidnext (due_action b.queue)) c p.selected b →
      Purpose p b w c
  search_for uidnext s g n =
      let is : need_search uidnext (due_action b.queue) ≡ needs.Ask (question_of uidnext g.id) =
      ap (need_search uidnext) g.there ∙ ap (search_of uidnext) g.action in
      let asked : IsNeeded (needs.Ask (question_of uidnext g.id)) c p.selected b = subst (λ (x : Need). IsNeeded x c p.selected b) is n in
      a_search (record { uidnext = uidnext; step = s; append = g; command = asked.is; selected = asked.at })

  ids_for : step_of p b ≡ steps.AskIds → OfCandidates p b → IsNeeded (need_ids p.told) c p.selected b → Purpose p b w c
  ids_for s g n =
      let asked : IsNeeded (needs.Ask (commands.FetchIds g.uids)) c p.selected b =
      subst (λ (x : Finding). IsNeeded (need_ids x) c p.selected b) g.told n in
      the_ids (record { step = s; found = g; command = asked.is; selected = asked.at })

  send_for : step_of p b ≡ steps.Send → OfSend Seen b → IsNeeded (need_send (due_id b) (due_action b.queue) b.pending) c p.selected b →
      Purpose p b w c
  send_for s g n =
      let is : need_send (due_id b) (due_action b.queue) b.pending ≡ send_of (due_id b) g.queued.action g.intent =
      ap (λ (x : Option Queued). need_send (due_id b) x b.pending) g.there ∙ ap (send_meant (due_id b) g.queued.action) g.pending in
      let sent : IsNeeded (send_of (due_id b) g.queued.action g.intent) c p.selected b =
      subst (λ (x : Need). IsNeeded x c p.selected b) is n in
      an_effect (record {
        step = s;
        sends = g;
        command = sent;
        mutating = sent_mutates (due_id b) g.queued.action g.intent c p.selected b sent;
      })

  learn_never : (o : Option Resynced) → IsNeeded (need_learn o) c p.selected b → ⊥
  learn_never None n = n
  learn_never (Some told) n = n

  purpose_by : (step : Step) → step_of p b ≡ step → Ground Seen p b step → IsNeeded (need_for step p b) c p.selected b → Purpose p b w c
  purpose_by steps.Learn s g n = absurd (learn_never p.learns n)
  purpose_by (steps.Select name under) s g n = a_box (record { name = name; under = under; step = s; box = g; selects = n })
  purpose_by (steps.AskRow uid) s g n = a_row (record { uid = uid; step = s; message = g; command = n.is; selected = n.at })
  purpose_by (steps.Search uidnext) s g n = search_for uidnext s g n
  purpose_by steps.AskIds s g n = ids_for s g n
  purpose_by (steps.Intend intent) s g n = absurd n
  purpose_by (steps.Settle outcome) s g n =
      absurd (end_any (λ (need : Need). IsNeeded need c p.selected b → ⊥) (λ k o x. x) (λ k t x. x) (due_id b) outcome (again (tries_due b.queue) outcome) n)
  purpose_by steps.Send s g n = send_for s g n
  purpose_by steps.Finished s g n = absurd n

  module _ (sound : IsSound b) (known : Knows p b w) where
    again_seen : (name : List ℕ) (validity uid modseq : ℕ) (so : Bool) → p.told ≡ findings.Row modseq so →
        Seen (intents.Store name validity uid modseq)
    again_seen name validity uid modseq so t =
        was_map (RowTold modseq so) (RowAt modseq) b w.course (λ action o h. row_mark modseq so action o h)
        (subst (λ (x : Finding). IsTold x b w.course) t known.told)

    -- what a command that is needed is for
    pub purpose_of : IsNeeded (need_of p b) c p.selected b → Purpose p b w c
    purpose_of n =
        purpose_by (step_of p b) refl
        (grounded Seen p b sound (λ r intent h. meant_seen intent b w (known.meant r intent h)) again_seen (λ from validity uid to. tt)
        (λ to validity uidnext. tt)) n

-- with a command that is needed nothing waits for its record
none_for : (p : Player) (b : Meaning) (c : Waiting) (o : Option Resynced) → p.learns ≡ o →
    IsNeeded (need_for (step_learn p b o) p b) c p.selected b →
    p.learns ≡ None
none_for p b c None e n = e
none_for p b c (Some told) e n = absurd (subst (λ (o : Option Resynced). IsNeeded (need_learn o) c p.selected b) e n)

pub learns_none : (p : Player) (b : Meaning) (c : Waiting) → IsNeeded (need_of p b) c p.selected b → p.learns ≡ None
learns_none p b c n = none_for p b c p.learns refl n

-- the mailbox that is to be selected is one of the book's, whatever was told
pub selects_known : (p : Player) (b : Meaning) → IsSound b → (name : List ℕ) (under : Option ℕ) → step_of p b ≡ steps.Select name under →
    OfBox name b
selects_known p b sound name under s =
    subst (λ (x : Step). Ground (λ _. Unit {0}) p b x) s
    (grounded (λ _. Unit {0}) p b sound (λ r intent h. tt) (λ n validity uid modseq so t. tt) (λ from validity uid to. tt)
    (λ to validity uidnext. tt))
