-- A SELECT that is taken and a reply that is awaited leave fewer records and replies.
use Rattle.action_queue.specs.Book.{Meaning}
use Rattle.action_queue.specs.Queues.{due_action, tries_due}
use Rattle.action_queue.specs.Rules.{suits}
use Rattle.action_queue.specs.Targets.{resolved}
use Rattle.action_queue.specs.declared.action.Action.{Action}
use Rattle.action_queue.specs.declared.found.Found.{Found}
use Rattle.action_queue.specs.declared.intent.Intent.{Intent}
use Rattle.action_queue.specs.declared.queued.Queued.{Queued}
use Rattle.action_queue.specs.declared.target.Target.{Target}
use Rattle.append_probe.specs.declared.verdict.Verdict.{Verdict}
use Rattle.imap_model.proofs.Finding.{names_same}
use Rattle.imap_model.specs.declared.replies.Replies.{Replies}
use Rattle.mailbox_cache.specs.declared.delta.Delta.{Delta}
use Rattle.playback.proofs.Ranks.{add_less, append_first_any, append_judged_any, append_meant_any, at_most, below_boxed, below_selected}
use Rattle.playback.proofs.Ranks.{box_any, boxed, due_search_any, due_sent_any, flag_first_any, flag_meant_any, ids_any, judged_any}
use Rattle.playback.proofs.Ranks.{move_first_any, move_meant_any, rank_unlearned, unlearned}
use Rattle.playback.proofs.Readings.{append_ends, if_read, move_ends, row_any, store_ends}
use Rattle.playback.proofs.Elsewhere.{selected_now}
use Rattle.playback.specs.Choosing.{IsChosen, begun_with, box_fault, chosen_due, chosen_for, chosen_in, is_many, is_below, rows_fault}
use Rattle.playback.specs.Choosing.{rows_with, target_fault, wanted_by}
use Rattle.playback.specs.Left.{Awaits, LeftAtFirst, left, rank, rank_behind, rank_of, unsettled}
use Rattle.playback.proofs.Trying.{end_any}
use Rattle.playback.specs.Needs.{again, due_id, need_for, need_learn, need_of}
use Rattle.playback.specs.Replying.{Hears, HearsDue, HearsIds, HearsIdsOf, HearsStep, IsHeard, found_uids, is_barred, last_copied}
use Rattle.playback.specs.Replying.{last_fetch, read_append, read_move, read_store}
use Rattle.book_laws.specs.Sound.{HasIntent, IsSound}
use Rattle.playback.specs.Steps.{append_again, append_first, append_in_box, append_meant, append_new, flag_again, flag_first, flag_judged}
use Rattle.playback.specs.Steps.{flag_meant, flag_new, in_box, is_selected, is_selected_at, move_again, move_first, move_meant, select_any}
use Rattle.playback.specs.Steps.{step_action, step_append, step_due, step_flag_at, step_flag_found, step_learn}
use Rattle.playback.specs.Steps.{step_move_at, step_move_found, step_of}
use Rattle.playback.specs.declared.finding.Finding.{Finding}
use Rattle.playback.specs.declared.finding.Resynced.{Resynced}
use Rattle.playback.specs.declared.finding.Spot.{Spot}
use Rattle.playback.specs.declared.need.Need.{Need}
use Rattle.playback.specs.declared.need.Unheard.{Unheard}
use Rattle.playback.specs.declared.player.Player.{Player}
use Rattle.playback.specs.declared.step.Step.{Step}
use Rattle.qresync_core.specs.declared.fault.ResyncFault.{ResyncFault}
use Rattle.std.proofs.Common.{Bool, Err, List, None, Ok, Option, Result, Some, [], ap, arith, false, length, not, refl, subst, sym, true, ℕ}
use Rattle.std.proofs.Common.{◌*◌, ◌+◌, ◌-◌, ◌<◌, ◌∙◌, ◌∷◌, ◌≡◌, ◌≤◌}
use Rattle.std.proofs.lemmas.Bool.{and_from, and_parts, cond-true, eq-eqb}
use Rattle.std.proofs.lemmas.Option.{same_Some}
use Rattle.std.specs.Prelude.{bytes_eq, slice_get, ◌==◌}
use Rattle.uid_sets.specs.declared.uid.UidRange.{UidRange}
use Rattle.action_queue.specs.declared.action.Action.TheVariants as actions
use Rattle.playback.specs.declared.finding.Finding.TheVariants as findings
use Rattle.action_queue.specs.declared.found.Found.TheVariants as found
use Rattle.action_queue.specs.declared.intent.Intent.TheVariants as intents
use Rattle.playback.specs.declared.need.Need.TheVariants as needs
use Rattle.playback.specs.declared.step.Step.TheVariants as steps

-- A player as a connection begins.
pub left_at_first : LeftAtFirst
left_at_first alloc b = let h : rank (step_of (begun_with alloc b) b) ≤ 7 = at_most (step_of (begun_with alloc b) b) in omega (arith, h)

-- A mailbox is selected.

-- of a SELECT this is so
abbrev OnSelect : (List ℕ → Option ℕ → Type 0) → Step → Type 0
OnSelect So (steps.Select name under) = So name under
OnSelect So step = Unit {0}

flag_again_low : (resumed : Bool) (mark : ℕ) (spot : Spot) → rank (flag_again resumed mark findings.Nothing spot) ≤ 5
flag_again_low false mark spot = omega arith
flag_again_low true mark spot = omega arith

move_again_low : (resumed : Bool) (spot : Spot) → rank (move_again resumed findings.Nothing spot) ≤ 5
move_again_low false spot = omega arith
move_again_low true spot = omega arith

append_again_low : (resumed : Bool) (to : List ℕ) (validity uidnext told next : ℕ) →
    rank (append_again resumed (findings.Next told next) to validity uidnext) ≤ 5
append_again_low false to validity uidnext told next = omega arith
append_again_low true to validity uidnext told next = omega arith

module _ (p : Player) (b : Meaning) (delta : Delta) where
  abbrev chosen_with : List ℕ → Finding → Player
  chosen_with name told = record p {
    selected = Some (record { name = name; validity = delta.validity });
    told = told;
    learns = Some (record { name = name; delta = delta });
  }

  -- behind the SELECT that is due the step isn't another SELECT
  abbrev Low : Finding → (Player → Step) → Step → Type 0
  Low told step = OnSelect (λ name under. is_below under delta.validity ≡ None → 1 + rank (step (chosen_with name told)) ≤ 6)

  now_boxed : (meant : Bool) (spot : Spot) (step : Step) → rank step ≤ 5 → is_below (Some spot.validity) delta.validity ≡ None →
      1 + rank (in_box (Some (record { name = spot.name; validity = delta.validity })) meant spot step) ≤ 6
  now_boxed meant spot step low e =
      selected_now (λ (s : Step). 1 + rank s ≤ 6) meant spot.name spot.validity delta.validity step e (omega (arith, low)) (λ n. omega arith)

  module _ (target : Target) (add : Bool) (flags : List (List ℕ)) where
    flag_low : (pending : Option Intent) → ((intent : Intent) → pending ≡ Some intent → suits b.queue (actions.Flag target add flags) intent ≡ true) →
        (spot : Spot) → Low findings.Nothing (λ n. step_flag_at n pending spot) (step_flag_at p pending spot)
    flag_low None suited spot =
        boxed (Low findings.Nothing (λ n. step_flag_at n None spot)) p.selected false spot (flag_first p.told spot)
        (λ t. flag_first_any (Low findings.Nothing (λ n. step_flag_at n None spot)) (λ outcome. tt) spot tt (λ modseq. tt) p.told)
        (λ f. now_boxed false spot (steps.AskRow spot.uid) (omega arith)) (λ n. tt)
    flag_low (Some (intents.Store name validity uid modseq)) suited spot =
        flag_meant_any (Low findings.Nothing (λ n. step_flag_at n (Some (intents.Store name validity uid modseq)) spot)) (λ outcome. tt) p modseq spot
        (λ f. now_boxed true spot (flag_again p.resumed modseq findings.Nothing spot) (flag_again_low p.resumed modseq spot)) (λ t. tt) (λ t. tt) p.told
    flag_low (Some (intents.Shift from validity uid to)) suited spot =
        let f : false ≡ true = suited (intents.Shift from validity uid to) refl in absurd (cc)
    flag_low (Some (intents.Put to validity uidnext)) suited spot =
        let f : false ≡ true = suited (intents.Put to validity uidnext) refl in absurd (cc)

    flag_found_low : (pending : Option Intent) →
        ((intent : Intent) → pending ≡ Some intent → suits b.queue (actions.Flag target add flags) intent ≡ true) →
        (place : Found) → Low findings.Nothing (λ n. step_flag_found n pending place) (step_flag_found p pending place)
    flag_found_low pending suited (found.Real name validity uid) = flag_low pending suited (record { name = name; validity = validity; uid = uid })
    flag_found_low pending suited (found.NotYet by) = tt
    flag_found_low pending suited (found.Never by) = tt

  module _ (target : Target) (to : List ℕ) where
    move_low : (pending : Option Intent) → ((intent : Intent) → pending ≡ Some intent → suits b.queue (actions.Move target to) intent ≡ true) →
        (spot : Spot) → Low findings.Nothing (λ n. step_move_at n pending spot to) (step_move_at p pending spot to)
    move_low None suited spot =
        boxed (Low findings.Nothing (λ n. step_move_at n None spot to)) p.selected false spot (move_first p.told spot to)
        (λ t. move_first_any (Low findings.Nothing (λ n. step_move_at n None spot to)) (λ outcome. tt) spot to tt tt p.told)
        (λ f. now_boxed false spot (steps.AskRow spot.uid) (omega arith)) (λ n. tt)
    move_low (Some (intents.Shift from validity uid other)) suited spot =
        move_meant_any (Low findings.Nothing (λ n. step_move_at n (Some (intents.Shift from validity uid other)) spot to)) (λ outcome. tt) p spot
        (λ f. now_boxed true spot (move_again p.resumed findings.Nothing spot) (move_again_low p.resumed spot)) (λ t. tt) (λ t. tt) p.told
    move_low (Some (intents.Store name validity uid modseq)) suited spot =
        let f : false ≡ true = suited (intents.Store name validity uid modseq) refl in absurd (cc)
    move_low (Some (intents.Put other validity uidnext)) suited spot =
        let f : false ≡ true = suited (intents.Put other validity uidnext) refl in absurd (cc)

    move_found_low : (pending : Option Intent) → ((intent : Intent) → pending ≡ Some intent → suits b.queue (actions.Move target to) intent ≡ true) →
        (place : Found) → Low findings.Nothing (λ n. step_move_found n pending to place) (step_move_found p pending to place)
    move_found_low pending suited (found.Real name validity uid) = move_low pending suited (record { name = name; validity = validity; uid = uid })
    move_found_low pending suited (found.NotYet by) = tt
    move_found_low pending suited (found.Never by) = tt

  module _ (to : List ℕ) (flags : List (List ℕ)) (text id : List ℕ) where
    abbrev next_told : Finding
    next_told = findings.Next delta.validity delta.uidnext

    selected_here : is_selected_at (Some (record { name = to; validity = delta.validity })) to delta.validity ≡ true
    selected_here =
        and_from (bytes_eq to to) (delta.validity == delta.validity) (names_same to to refl) (eq-eqb delta.validity delta.validity refl)

    new_low : 1 + rank (append_new (Some (record { name = to; validity = delta.validity })) to delta.validity delta.uidnext) ≤ 6
    new_low =
        subst (λ (s : Step). 1 + rank s ≤ 6)
        (sym
        (cond-true (is_selected_at (Some (record { name = to; validity = delta.validity })) to delta.validity)
        (steps.Intend (intents.Put to delta.validity delta.uidnext)) (select_any to) selected_here))
        (omega arith)

    put_low : (validity uidnext : ℕ) → is_below (Some validity) delta.validity ≡ None →
        1 + rank (append_in_box (chosen_with to next_told) to validity uidnext next_told) ≤ 6
    put_low validity uidnext e =
        let low : rank (append_again p.resumed next_told to validity uidnext) ≤ 5 =
        append_again_low p.resumed to validity uidnext delta.validity delta.uidnext in
        selected_now (λ (s : Step). 1 + rank s ≤ 6) true to validity delta.validity (append_again p.resumed next_told to validity uidnext) e
        (omega (arith, low)) (λ n. omega arith)

    append_low : (pending : Option Intent) →
        ((intent : Intent) → pending ≡ Some intent → suits b.queue (actions.Append to flags text id) intent ≡ true) →
        Low next_told (λ n. step_append n pending to) (step_append p pending to)
    append_low None suited =
        append_first_any (Low next_told (λ n. step_append n None to)) (λ outcome. tt) p.selected to (λ e. new_low) (λ validity uidnext t. tt) p.told
    append_low (Some (intents.Put other validity uidnext)) suited =
        append_meant_any (Low next_told (λ n. step_append n (Some (intents.Put other validity uidnext)) to)) (λ outcome. tt) to validity uidnext
        (put_low validity uidnext) p (λ t. tt) (λ t. tt) p.told (λ uids e t. tt)
    append_low (Some (intents.Store name validity uid modseq)) suited =
        let f : false ≡ true = suited (intents.Store name validity uid modseq) refl in absurd (cc)
    append_low (Some (intents.Shift from validity uid other)) suited =
        let f : false ≡ true = suited (intents.Shift from validity uid other) refl in absurd (cc)

  action_low : (action : Action) → ((intent : Intent) → b.pending ≡ Some intent → suits b.queue action intent ≡ true) →
      Low (chosen_for action delta) (λ n. step_action n b action) (step_action p b action)
  action_low (actions.Flag target add flags) suited = flag_found_low target add flags b.pending suited (resolved b.queue target)
  action_low (actions.Move target to) suited = move_found_low target to b.pending suited (resolved b.queue target)
  action_low (actions.Append to flags text id) suited = append_low to flags text id b.pending suited

  suited_due : IsSound b → (q : Queued) → due_action b.queue ≡ Some q → (intent : Intent) → b.pending ≡ Some intent →
      suits b.queue q.action intent ≡ true
  suited_due sound q e intent pending =
      let has : HasIntent b intent = sound.intent intent pending in
      subst (λ (x : Queued). suits b.queue x.action intent ≡ true) (same_Some has.queued q (sym has.there ∙ e)) has.suits_it

  -- what was told of the mailbox is recorded before that step
  abbrev LowLearned : Option Queued → Step → Type 0
  LowLearned queued =
      OnSelect (λ name under. is_below under delta.validity ≡ None → rank_behind (chosen_with name (chosen_due queued delta)) b queued ≤ 6)

  due_low : IsSound b → (queued : Option Queued) → due_action b.queue ≡ queued → LowLearned queued (step_due p b queued)
  due_low sound None e = box_any (LowLearned None) tt (λ name other. omega arith) (slice_get b.boxes p.resynced)
  due_low sound (Some q) e = action_low q.action (suited_due sound q e)

  learn_low : IsSound b → (learns : Option Resynced) → LowLearned (due_action b.queue) (step_learn p b learns)
  learn_low sound None = due_low sound (due_action b.queue) refl
  learn_low sound (Some told) = tt

  -- the need is a SELECT where the step is one
  abbrev NoSelect : List ℕ → Need → Type 0
  NoSelect name need = need ≡ needs.Select name → ⊥

  learn_selects : (name : List ℕ) (learns : Option Resynced) → NoSelect name (need_learn learns)
  learn_selects name None e = absurd (cc)
  learn_selects name (Some told) e = absurd (cc)

  none_other : (other : Option (ℕ × ℕ)) (later : Option Unheard) → target_fault other later ≡ None → other ≡ None
  none_other None later e = refl
  none_other (Some pair) later e = absurd (cc)

  none_learned : (learns : Option Resynced) (name : List ℕ) (under : Option ℕ) → step_learn p b learns ≡ steps.Select name under → learns ≡ None
  none_learned None name under e = refl
  none_learned (Some told) name under e = absurd (cc)

  step_low : IsSound b → (name : List ℕ) (step : Step) → step_of p b ≡ step → need_for step p b ≡ needs.Select name →
      box_fault b delta (wanted_by step) ≡ None → left (chosen_in p b delta (wanted_by step)) b < left p b
  step_low sound name steps.Learn e need fault = absurd (learn_selects name p.learns need)
  step_low sound name (steps.Select box under) e need fault =
      let low : rank_behind (chosen_with box (chosen_due (due_action b.queue) delta)) b (due_action b.queue) ≤ 6 =
      subst (LowLearned (due_action b.queue)) e (learn_low sound p.learns)
      (none_other (is_below under delta.validity) (rows_fault (is_many (rows_with box b delta))) fault) in
      let was : rank_of p b p.learns ≡ 7 = ap (λ (learns : Option Resynced). rank_of p b learns) (none_learned p.learns box under e) ∙ ap rank e in
      add_less (rank_behind (chosen_with box (chosen_due (due_action b.queue) delta)) b (due_action b.queue)) (rank_of p b p.learns)
      (4 * (2 - tries_due b.queue)) (16 * unsettled b.queue) (16 * (length b.boxes - p.resynced)) (omega (arith, low, was))
  step_low sound name (steps.AskRow uid) e need fault = absurd (cc)
  step_low sound name (steps.Search uidnext) e need fault =
      absurd
      (due_search_any (NoSelect name) (λ n. absurd (cc)) (λ command n. absurd (cc)) (λ number command n. absurd (cc)) uidnext
      (due_action b.queue) need)
  step_low sound name steps.AskIds e need fault =
      absurd (ids_any (NoSelect name) (λ n. absurd (cc)) (λ command n. absurd (cc)) (λ number command n. absurd (cc)) p.told need)
  step_low sound name (steps.Intend intent) e need fault = absurd (cc)
  step_low sound name (steps.Settle outcome) e need fault =
      absurd (end_any (NoSelect name) (λ n o x. absurd (cc)) (λ n k x. absurd (cc)) (due_id b) outcome (again (tries_due b.queue) outcome) need)
  step_low sound name steps.Send e need fault =
      absurd
      (due_sent_any (NoSelect name) (λ n. absurd (cc)) (λ command n. absurd (cc)) (λ number command n. absurd (cc)) (due_id b) (due_action b.queue)
      b.pending need)
  step_low sound name steps.Finished e need fault = absurd (cc)

-- A SELECT that is taken leaves less.
pub chosen_falls : (p new : Player) (b : Meaning) (delta : Delta) (name : List ℕ) → IsSound b → need_of p b ≡ needs.Select name →
    IsChosen p b (Ok delta) new → left new b < left p b
chosen_falls p new b delta name sound need is =
    subst (λ (x : Player). left x b < left p b) (sym is.1) (step_low p b delta sound name (step_of p b) refl need is.0)

pub taken_falls : (p new : Player) (b : Meaning) (told : Result Delta ResyncFault) (name : List ℕ) → IsSound b → need_of p b ≡ needs.Select name →
    IsChosen p b told new → left new b < left p b
taken_falls p new b (Ok delta) name sound need is = chosen_falls p new b delta name sound need is
taken_falls p new b (Err fault) name sound need is = absurd is

-- A reply is heard.

-- a reply is awaited for this step
abbrev AwaitsStep : Step → Type 0
AwaitsStep (steps.AskRow uid) = Unit {0}
AwaitsStep (steps.Search uidnext) = Unit {0}
AwaitsStep steps.AskIds = Unit {0}
AwaitsStep steps.Send = Unit {0}
AwaitsStep step = ⊥

awaits_step : (p : Player) (b : Meaning) (step : Step) → p.learns ≡ None → Awaits (need_for step p b) → AwaitsStep step
awaits_step p b steps.Learn e w = subst (λ (learns : Option Resynced). Awaits (need_learn learns)) e w
awaits_step p b (steps.Select name under) e w = w
awaits_step p b (steps.AskRow uid) e w = tt
awaits_step p b (steps.Search uidnext) e w = tt
awaits_step p b steps.AskIds e w = tt
awaits_step p b (steps.Intend intent) e w = w
awaits_step p b (steps.Settle outcome) e w =
    end_any (λ (need : Need). Awaits need → ⊥) (λ n o x. x) (λ n k x. x) (due_id b) outcome (again (tries_due b.queue) outcome) w
awaits_step p b steps.Send e w = tt
awaits_step p b steps.Finished e w = w

awaits_none : (p : Player) (b : Meaning) (learns : Option Resynced) → p.learns ≡ learns → Awaits (need_for (step_learn p b learns) p b) →
    learns ≡ None
awaits_none p b None e w = refl
awaits_none p b (Some told) e w = absurd (subst (λ (learns : Option Resynced). Awaits (need_learn learns)) e w)

-- what a flag action's row leaves
new_below : (modseq : ℕ) (so : Bool) (spot : Spot) → rank (flag_new modseq so spot) < 4
new_below modseq false spot = omega arith
new_below modseq true spot = omega arith

judged_below : (mark modseq : ℕ) (so : Bool) → rank (flag_judged mark modseq so) < 4
judged_below mark modseq so = judged_any (λ (s : Step). rank s < 4) (λ outcome. omega arith) (omega arith) mark modseq so

flag_none_below : (resumed : Bool) (mark : ℕ) (spot : Spot) → rank (flag_again resumed mark findings.NoRow spot) < 4
flag_none_below false mark spot = omega arith
flag_none_below true mark spot = omega arith

flag_row_below : (resumed : Bool) (mark modseq : ℕ) (so : Bool) (spot : Spot) → rank (flag_again resumed mark (findings.Row modseq so) spot) < 4
flag_row_below false mark modseq so spot = omega arith
flag_row_below true mark modseq so spot = judged_below mark modseq so

move_none_below : (resumed : Bool) (spot : Spot) → rank (move_again resumed findings.NoRow spot) < 4
move_none_below false spot = omega arith
move_none_below true spot = omega arith

move_row_below : (resumed : Bool) (modseq : ℕ) (so : Bool) (spot : Spot) → rank (move_again resumed (findings.Row modseq so) spot) < 4
move_row_below false modseq so spot = omega arith
move_row_below true modseq so spot = omega arith

-- what a search leaves of an append
found_below : (resumed : Bool) (to : List ℕ) (validity uidnext : ℕ) (uids : List UidRange) →
    rank (append_again resumed (found_uids uids) to validity uidnext) < 5
found_below false to validity uidnext uids = omega arith
found_below true to validity uidnext [] = omega arith
found_below true to validity uidnext (range ∷ ranges) = omega arith

probed_below : (resumed : Bool) (to : List ℕ) (validity uidnext : ℕ) (verdict : Verdict) →
    rank (append_again resumed (findings.Probed verdict) to validity uidnext) < 4
probed_below false to validity uidnext verdict = omega arith
probed_below true to validity uidnext verdict = append_judged_any (λ (s : Step). rank s < 4) (λ outcome. omega arith) (omega arith) verdict validity

found_boxed : (p : Player) (to : List ℕ) (validity uidnext : ℕ) (uids : List UidRange) →
    append_meant p to validity uidnext (found_uids uids) ≡ append_in_box p to validity uidnext (found_uids uids)
found_boxed p to validity uidnext [] = refl
found_boxed p to validity uidnext (range ∷ ranges) = refl

module _ (p : Player) (b : Meaning) (permits : Bool) (r : Replies) (finding : Finding) where
  abbrev heard_now : Player
  heard_now = record p { told = finding }

  -- of a step that waits for a reply: the one behind the reply has a lower rank
  abbrev Lowers : Action → Option Intent → Step → Step → Type 0
  Lowers action pending new step = AwaitsStep step → HearsStep step p action pending permits r finding → rank new < rank step

  module _ (target : Target) (add : Bool) (flags : List (List ℕ)) where
    flag_first_falls : (spot : Spot) → is_selected p.selected spot ≡ true →
        Lowers (actions.Flag target add flags) None (in_box p.selected false spot (flag_first finding spot)) (steps.AskRow spot.uid)
    flag_first_falls spot t w h =
        row_any (λ (f : Finding). rank (in_box p.selected false spot (flag_first f spot)) < 4) (is_barred permits (actions.Flag target add flags) None)
        (actions.Flag target add flags) (below_boxed 4 p.selected false spot (flag_first findings.NoRow spot) t (omega arith))
        (λ modseq so. below_boxed 4 p.selected false spot (flag_new modseq so spot) t (new_below modseq so spot))
        (λ barred. below_boxed 4 p.selected false spot (flag_first findings.Barred spot) t (omega arith)) (last_fetch spot.uid r.untagged) finding h

    flag_asked_falls : (name : List ℕ) (validity uid mark : ℕ) (spot : Spot) → is_selected p.selected spot ≡ true →
        Lowers (actions.Flag target add flags) (Some (intents.Store name validity uid mark)) (flag_meant heard_now mark spot finding)
        (steps.AskRow spot.uid)
    flag_asked_falls name validity uid mark spot t w h =
        row_any (λ (f : Finding). rank (flag_meant heard_now mark spot f) < 4)
        (is_barred permits (actions.Flag target add flags) (Some (intents.Store name validity uid mark)))
        (actions.Flag target add flags)
        (below_boxed 4 p.selected true spot (flag_again p.resumed mark findings.NoRow spot) t (flag_none_below p.resumed mark spot))
        (λ modseq so. below_boxed 4 p.selected true spot (flag_again p.resumed mark (findings.Row modseq so) spot) t
        (flag_row_below p.resumed mark modseq so spot))
        (λ barred. let f : false ≡ true = (and_parts (not permits) false barred).1 in absurd (cc)) (last_fetch spot.uid r.untagged) finding h

    flag_sent_falls : (name : List ℕ) (validity uid mark : ℕ) (spot : Spot) →
        Lowers (actions.Flag target add flags) (Some (intents.Store name validity uid mark)) (flag_meant heard_now mark spot finding) steps.Send
    flag_sent_falls name validity uid mark spot w h =
        if_read (λ (f : Finding). rank (flag_meant heard_now mark spot f) < 2) (Ok (read_store uid mark p.resumed r)) finding h
        (store_ends (λ (f : Finding). rank (flag_meant heard_now mark spot f) < 2) (λ outcome. omega arith) uid mark p.resumed r)

    flag_falls : (pending : Option Intent) (spot : Spot) →
        Lowers (actions.Flag target add flags) pending (step_flag_at heard_now pending spot) (step_flag_at p pending spot)
    flag_falls None spot =
        boxed (Lowers (actions.Flag target add flags) None (in_box p.selected false spot (flag_first finding spot))) p.selected false spot
        (flag_first p.told spot)
        (λ t. flag_first_any (Lowers (actions.Flag target add flags) None (in_box p.selected false spot (flag_first finding spot)))
        (λ outcome w h. absurd w) spot (flag_first_falls spot t) (λ modseq w h. absurd w) p.told)
        (λ f w h. absurd w) (λ n w h. absurd w)
    flag_falls (Some (intents.Store name validity uid mark)) spot =
        flag_meant_any
        (Lowers (actions.Flag target add flags) (Some (intents.Store name validity uid mark)) (flag_meant heard_now mark spot finding))
        (λ outcome w h. absurd w) p mark spot (λ f w h. absurd w) (flag_asked_falls name validity uid mark spot)
        (λ t. flag_sent_falls name validity uid mark spot) p.told
    flag_falls (Some (intents.Shift from validity uid to)) spot = λ w h. absurd w
    flag_falls (Some (intents.Put to validity uidnext)) spot = λ w h. absurd w

    flag_found_falls : (pending : Option Intent) (place : Found) →
        Lowers (actions.Flag target add flags) pending (step_flag_found heard_now pending place) (step_flag_found p pending place)
    flag_found_falls pending (found.Real name validity uid) = flag_falls pending (record { name = name; validity = validity; uid = uid })
    flag_found_falls pending (found.NotYet by) = λ w h. absurd w
    flag_found_falls pending (found.Never by) = λ w h. absurd w

  module _ (target : Target) (to : List ℕ) where
    move_first_falls : (spot : Spot) → is_selected p.selected spot ≡ true →
        Lowers (actions.Move target to) None (in_box p.selected false spot (move_first finding spot to)) (steps.AskRow spot.uid)
    move_first_falls spot t w h =
        row_any (λ (f : Finding). rank (in_box p.selected false spot (move_first f spot to)) < 4) false (actions.Move target to)
        (below_boxed 4 p.selected false spot (move_first findings.NoRow spot to) t (omega arith))
        (λ modseq so. below_boxed 4 p.selected false spot (move_first (findings.Row modseq so) spot to) t (omega arith))
        (λ barred. absurd (cc)) (last_fetch spot.uid r.untagged) finding h

    move_asked_falls : (from : List ℕ) (validity uid : ℕ) (other : List ℕ) (spot : Spot) → is_selected p.selected spot ≡ true →
        Lowers (actions.Move target to) (Some (intents.Shift from validity uid other)) (move_meant heard_now spot finding) (steps.AskRow spot.uid)
    move_asked_falls from validity uid other spot t w h =
        row_any (λ (f : Finding). rank (move_meant heard_now spot f) < 4) false (actions.Move target to)
        (below_boxed 4 p.selected true spot (move_again p.resumed findings.NoRow spot) t (move_none_below p.resumed spot))
        (λ modseq so. below_boxed 4 p.selected true spot (move_again p.resumed (findings.Row modseq so) spot) t (move_row_below p.resumed modseq so spot))
        (λ barred. absurd (cc)) (last_fetch spot.uid r.untagged) finding h

    move_sent_falls : (from : List ℕ) (validity uid : ℕ) (other : List ℕ) (spot : Spot) →
        Lowers (actions.Move target to) (Some (intents.Shift from validity uid other)) (move_meant heard_now spot finding) steps.Send
    move_sent_falls from validity uid other spot w h =
        if_read (λ (f : Finding). rank (move_meant heard_now spot f) < 2) (read_move uid p.resumed r) finding h
        (move_ends (λ (f : Finding). rank (move_meant heard_now spot f) < 2) (λ outcome. omega arith) uid p.resumed
        (last_copied r.untagged r.code) r.ending)

    move_falls : (pending : Option Intent) (spot : Spot) →
        Lowers (actions.Move target to) pending (step_move_at heard_now pending spot to) (step_move_at p pending spot to)
    move_falls None spot =
        boxed (Lowers (actions.Move target to) None (in_box p.selected false spot (move_first finding spot to))) p.selected false spot (move_first p.told spot to)
        (λ t. move_first_any (Lowers (actions.Move target to) None (in_box p.selected false spot (move_first finding spot to))) (λ outcome w h. absurd w)
        spot to (move_first_falls spot t) (λ w h. absurd w) p.told)
        (λ f w h. absurd w) (λ n w h. absurd w)
    move_falls (Some (intents.Shift from validity uid other)) spot =
        move_meant_any (Lowers (actions.Move target to) (Some (intents.Shift from validity uid other)) (move_meant heard_now spot finding))
        (λ outcome w h. absurd w) p spot (λ f w h. absurd w) (move_asked_falls from validity uid other spot)
        (λ t. move_sent_falls from validity uid other spot) p.told
    move_falls (Some (intents.Store name validity uid modseq)) spot = λ w h. absurd w
    move_falls (Some (intents.Put other validity uidnext)) spot = λ w h. absurd w

    move_found_falls : (pending : Option Intent) (place : Found) →
        Lowers (actions.Move target to) pending (step_move_found heard_now pending to place) (step_move_found p pending to place)
    move_found_falls pending (found.Real name validity uid) = move_falls pending (record { name = name; validity = validity; uid = uid })
    move_found_falls pending (found.NotYet by) = λ w h. absurd w
    move_found_falls pending (found.Never by) = λ w h. absurd w

  module _ (to : List ℕ) (flags : List (List ℕ)) (text id : List ℕ) where
    module _ (other : List ℕ) (validity uidnext : ℕ) where
      abbrev PutLowers : Step → Type 0
      PutLowers =
          Lowers (actions.Append to flags text id) (Some (intents.Put other validity uidnext)) (append_meant heard_now to validity uidnext finding)

      searched_falls : is_selected_at p.selected to validity ≡ true → PutLowers (steps.Search uidnext)
      searched_falls t w h =
          subst (λ (f : Finding). rank (append_meant heard_now to validity uidnext f) < 5) (sym h.is)
          (subst (λ (s : Step). rank s < 5) (sym (found_boxed heard_now to validity uidnext h.uids))
          (below_selected 5 heard_now to validity uidnext (found_uids h.uids) t (found_below p.resumed to validity uidnext h.uids)))

      judged_falls : (uids : List UidRange) → p.told ≡ findings.Candidates uids → is_selected_at p.selected to validity ≡ true →
          PutLowers steps.AskIds
      judged_falls uids e t w h =
          let ids : HearsIds uids id r finding =
          subst (λ (told : Finding). HearsIdsOf told (actions.Append to flags text id) r finding) e h in
          subst (λ (f : Finding). rank (append_meant heard_now to validity uidnext f) < 4) (sym ids.is)
          (below_selected 4 heard_now to validity uidnext (findings.Probed ids.verdict) t (probed_below p.resumed to validity uidnext ids.verdict))

      put_sent_falls : PutLowers steps.Send
      put_sent_falls w h =
          if_read (λ (f : Finding). rank (append_meant heard_now to validity uidnext f) < 2) (read_append r) finding h
          (append_ends (λ (f : Finding). rank (append_meant heard_now to validity uidnext f) < 2) (λ outcome. omega arith) r.code r.ending)

      put_falls : PutLowers (append_meant p to validity uidnext p.told)
      put_falls =
          append_meant_any PutLowers (λ outcome w h. absurd w) to validity uidnext (λ w h. absurd w) p searched_falls (λ t. put_sent_falls) p.told
          judged_falls

    append_falls : (pending : Option Intent) →
        Lowers (actions.Append to flags text id) pending (step_append heard_now pending to) (step_append p pending to)
    append_falls None =
        append_first_any (Lowers (actions.Append to flags text id) None (append_first p.selected finding to)) (λ outcome w h. absurd w) p.selected to
        (λ w h. absurd w) (λ validity uidnext t w h. absurd w) p.told
    append_falls (Some (intents.Put other validity uidnext)) = put_falls other validity uidnext
    append_falls (Some (intents.Store name validity uid modseq)) = λ w h. absurd w
    append_falls (Some (intents.Shift from validity uid other)) = λ w h. absurd w

  action_falls : (action : Action) → Lowers action b.pending (step_action heard_now b action) (step_action p b action)
  action_falls (actions.Flag target add flags) = flag_found_falls target add flags b.pending (resolved b.queue target)
  action_falls (actions.Move target to) = move_found_falls target to b.pending (resolved b.queue target)
  action_falls (actions.Append to flags text id) = append_falls to flags text id b.pending

  due_falls : p.learns ≡ None → (queued : Option Queued) → due_action b.queue ≡ queued → AwaitsStep (step_due p b queued) →
      HearsDue p b queued permits r finding → rank (step_due heard_now b queued) < rank (step_due p b queued)
  due_falls none None e w h =
      absurd (box_any (λ (s : Step). AwaitsStep s → ⊥) (λ x. x) (λ name x. x) (slice_get b.boxes p.resynced) w)
  due_falls none (Some q) e w h =
      action_falls q.action w
      (subst (λ (s : Step). HearsStep s p q.action b.pending permits r finding)
      (unlearned p b none ∙ ap (λ (o : Option Queued). step_due p b o) e) h)

  hears_falls : Hears p b permits r finding → Awaits (need_of p b) → left heard_now b < left p b
  hears_falls h w =
      let none : p.learns ≡ None = awaits_none p b p.learns refl w in
      let waits : AwaitsStep (step_due p b (due_action b.queue)) =
      subst AwaitsStep (unlearned p b none) (awaits_step p b (step_of p b) none w) in
      let less : rank (step_due heard_now b (due_action b.queue)) < rank (step_due p b (due_action b.queue)) =
      due_falls none (due_action b.queue) refl waits h in
      let new : rank_of heard_now b p.learns ≡ rank (step_due heard_now b (due_action b.queue)) = rank_unlearned heard_now b none in
      let old : rank_of p b p.learns ≡ rank (step_due p b (due_action b.queue)) = rank_unlearned p b none in
      add_less (rank_of heard_now b p.learns) (rank_of p b p.learns) (4 * (2 - tries_due b.queue)) (16 * unsettled b.queue) (16 * (length b.boxes - p.resynced))
      (omega (arith, less, new, old))

-- A reply that is awaited leaves less.
pub heard_falls : (p new : Player) (b : Meaning) (permits : Bool) (r : Replies) → IsSound b → IsHeard p b permits r new → Awaits (need_of p b) →
    left new b < left p b
heard_falls p new b permits r sound heard awaits =
    subst (λ (x : Player). left x b < left p b) (sym heard.is) (hears_falls p b permits r heard.finding heard.hears awaits)
