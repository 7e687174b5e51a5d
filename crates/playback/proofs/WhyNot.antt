-- Why a SELECT's answer isn't taken, in the words of the book and the delta.
use Rattle.action_queue.specs.Book.{Meaning}
use Rattle.action_queue.specs.Queues.{due_action}
use Rattle.action_queue.specs.Targets.{resolved}
use Rattle.action_queue.specs.declared.action.Action.{Action}
use Rattle.action_queue.specs.declared.book.Known.{Known}
use Rattle.action_queue.specs.declared.found.Found.{Found}
use Rattle.action_queue.specs.declared.intent.Intent.{Intent}
use Rattle.action_queue.specs.declared.queued.Queued.{Queued}
use Rattle.action_queue.specs.declared.target.Target.{Target}
use Rattle.append_probe.specs.declared.verdict.Verdict.{Verdict}
use Rattle.mail_base.specs.declared.limits.TheConstants.{MAX_ROWS}
use Rattle.mailbox_cache.specs.declared.delta.Delta.{Delta}
use Rattle.playback.proofs.Elsewhere.{elsewhere_any}
use Rattle.playback.specs.Steps.{above_at, elsewhere}
use Rattle.playback.specs.Allowed.{IsToHave, WhyNotChosen}
use Rattle.playback.specs.Choosing.{IsChosenFault, box_fault, is_many, is_below, of_resync, rows_fault, rows_with, target_fault, wanted_by}
use Rattle.playback.specs.Needs.{need_for, need_of}
use Rattle.playback.specs.Steps.{append_again, append_first, append_in_box, append_judged, append_meant, append_open, flag_again}
use Rattle.playback.specs.Steps.{flag_first, flag_judged, flag_meant, flag_open, in_box, is_selected, is_selected_at, move_again}
use Rattle.playback.specs.Steps.{move_first, move_meant, move_open, step_action, step_append}
use Rattle.playback.specs.Steps.{step_box, step_due, step_flag_at, step_flag_found, step_learn, step_move_at, step_move_found}
use Rattle.playback.specs.Steps.{step_of}
use Rattle.playback.specs.Why.{OfDue}
use Rattle.playback.specs.declared.finding.Finding.{Finding}
use Rattle.playback.specs.declared.finding.Resynced.{Resynced}
use Rattle.playback.specs.declared.finding.Selected.{Selected}
use Rattle.playback.specs.declared.finding.Spot.{Spot}
use Rattle.playback.specs.declared.need.Unheard.{Unheard}
use Rattle.playback.specs.declared.player.Player.{Player}
use Rattle.playback.specs.declared.step.Step.{Step}
use Rattle.qresync_core.specs.declared.fault.ResyncFault.{ResyncFault}
use Rattle.std.proofs.Common.{Bool, Err, List, None, Ok, Option, Result, Some, ap, cond, false, refl, subst, sym, true, ℕ, ⊎_elim}
use Rattle.std.proofs.Common.{◌<◌, ◌≡◌}
use Rattle.std.proofs.lemmas.Bool.{cond_both, ltb-true}
use Rattle.std.specs.Prelude.{nat_lt, slice_get, ◌==◌}
use Rattle.action_queue.specs.declared.action.Action.TheVariants as actions
use Rattle.playback.specs.declared.finding.Finding.TheVariants as findings
use Rattle.action_queue.specs.declared.found.Found.TheVariants as found
use Rattle.action_queue.specs.declared.intent.Intent.TheVariants as intents
use Rattle.playback.specs.declared.need.Need.TheVariants as needs
use Rattle.playback.specs.declared.need.Unheard.TheVariants as unheards
use Rattle.playback.specs.declared.step.Step.TheVariants as steps
use Rattle.append_probe.specs.declared.verdict.Verdict.TheVariants as verdicts
use Rattle.qresync_core.specs.declared.fault.ResyncFault.TheVariants as resyncs

-- where a mailbox is selected that is to have a UIDVALIDITY, that is so of it
abbrev SoUnder : (ℕ → Type 0) → Option ℕ → Type 0
SoUnder So None = Unit {0}
SoUnder So (Some validity) = So validity

abbrev Under : (List ℕ → ℕ → Type 0) → Step → Type 0
Under So steps.Learn = Unit {0}
Under So (steps.Select name under) = SoUnder (So name) under
Under So (steps.AskRow uid) = Unit {0}
Under So (steps.Search uidnext) = Unit {0}
Under So steps.AskIds = Unit {0}
Under So (steps.Intend intent) = Unit {0}
Under So (steps.Settle outcome) = Unit {0}
Under So steps.Send = Unit {0}
Under So steps.Finished = Unit {0}

module _ (So : List ℕ → ℕ → Type 0) where
  either : (t : Bool) (x y : Step) → Under So x → Under So y → Under So (cond t x y)
  either true x y a b = a
  either false x y a b = b

  module _ (spot : Spot) (so : So spot.name spot.validity) where
    boxed : (selected : Option Selected) (meant : Bool) (step : Step) → Under So step → Under So (in_box selected meant spot step)
    boxed selected meant step u =
        either (is_selected selected spot) step (elsewhere meant (above_at selected spot.name spot.validity) spot.name spot.validity) u
        (elsewhere_any (Under So) selected meant spot.name spot.validity so (λ n a. tt {0}))

    first_flag : (told : Finding) → Under So (flag_first told spot)
    first_flag findings.Nothing = tt {0}
    first_flag findings.NoRow = tt {0}
    first_flag (findings.Row modseq set) = either set _ _ (tt {0}) (tt {0})
    first_flag findings.Barred = tt {0}
    first_flag (findings.Ended outcome) = tt {0}
    first_flag (findings.Next validity uidnext) = tt {0}
    first_flag (findings.Candidates uids) = tt {0}
    first_flag (findings.Probed verdict) = tt {0}

    judged_flag : (mark modseq : ℕ) (set : Bool) → Under So (flag_judged mark modseq set)
    judged_flag mark modseq set = either (modseq == mark) _ _ (tt {0}) (either set _ _ (tt {0}) (tt {0}))

    open_flag : (mark : ℕ) (told : Finding) → Under So (flag_open mark told spot)
    open_flag mark findings.Nothing = tt {0}
    open_flag mark findings.NoRow = tt {0}
    open_flag mark (findings.Row modseq set) = judged_flag mark modseq set
    open_flag mark findings.Barred = tt {0}
    open_flag mark (findings.Ended outcome) = tt {0}
    open_flag mark (findings.Next validity uidnext) = tt {0}
    open_flag mark (findings.Candidates uids) = tt {0}
    open_flag mark (findings.Probed verdict) = tt {0}

    again_flag : (resumed : Bool) (mark : ℕ) (told : Finding) → Under So (flag_again resumed mark told spot)
    again_flag false mark told = tt {0}
    again_flag true mark told = open_flag mark told

    module _ (p : Player) where
      meant_flag : (mark : ℕ) (told : Finding) → Under So (flag_meant p mark spot told)
      meant_flag mark findings.Nothing = boxed p.selected true _ (again_flag p.resumed mark findings.Nothing)
      meant_flag mark findings.NoRow = boxed p.selected true _ (again_flag p.resumed mark findings.NoRow)
      meant_flag mark (findings.Row modseq set) = boxed p.selected true _ (again_flag p.resumed mark (findings.Row modseq set))
      meant_flag mark findings.Barred = boxed p.selected true _ (again_flag p.resumed mark findings.Barred)
      meant_flag mark (findings.Ended outcome) = tt {0}
      meant_flag mark (findings.Next validity uidnext) = boxed p.selected true _ (again_flag p.resumed mark (findings.Next validity uidnext))
      meant_flag mark (findings.Candidates uids) = boxed p.selected true _ (again_flag p.resumed mark (findings.Candidates uids))
      meant_flag mark (findings.Probed verdict) = boxed p.selected true _ (again_flag p.resumed mark (findings.Probed verdict))

      flag_under : (pending : Option Intent) → Under So (step_flag_at p pending spot)
      flag_under None = boxed p.selected false _ (first_flag p.told)
      flag_under (Some (intents.Store name validity uid modseq)) = meant_flag modseq p.told
      flag_under (Some (intents.Shift from validity uid to)) = so
      flag_under (Some (intents.Put to validity uidnext)) = so

    first_move : (told : Finding) (to : List ℕ) → Under So (move_first told spot to)
    first_move findings.Nothing to = tt {0}
    first_move findings.NoRow to = tt {0}
    first_move (findings.Row modseq set) to = tt {0}
    first_move findings.Barred to = tt {0}
    first_move (findings.Ended outcome) to = tt {0}
    first_move (findings.Next validity uidnext) to = tt {0}
    first_move (findings.Candidates uids) to = tt {0}
    first_move (findings.Probed verdict) to = tt {0}

    open_move : (told : Finding) → Under So (move_open told spot)
    open_move findings.Nothing = tt {0}
    open_move findings.NoRow = tt {0}
    open_move (findings.Row modseq set) = tt {0}
    open_move findings.Barred = tt {0}
    open_move (findings.Ended outcome) = tt {0}
    open_move (findings.Next validity uidnext) = tt {0}
    open_move (findings.Candidates uids) = tt {0}
    open_move (findings.Probed verdict) = tt {0}

    again_move : (resumed : Bool) (told : Finding) → Under So (move_again resumed told spot)
    again_move false told = tt {0}
    again_move true told = open_move told

    module _ (p : Player) where
      meant_move : (told : Finding) → Under So (move_meant p spot told)
      meant_move findings.Nothing = boxed p.selected true _ (again_move p.resumed findings.Nothing)
      meant_move findings.NoRow = boxed p.selected true _ (again_move p.resumed findings.NoRow)
      meant_move (findings.Row modseq set) = boxed p.selected true _ (again_move p.resumed (findings.Row modseq set))
      meant_move findings.Barred = boxed p.selected true _ (again_move p.resumed findings.Barred)
      meant_move (findings.Ended outcome) = tt {0}
      meant_move (findings.Next validity uidnext) = boxed p.selected true _ (again_move p.resumed (findings.Next validity uidnext))
      meant_move (findings.Candidates uids) = boxed p.selected true _ (again_move p.resumed (findings.Candidates uids))
      meant_move (findings.Probed verdict) = boxed p.selected true _ (again_move p.resumed (findings.Probed verdict))

      move_under : (pending : Option Intent) (to : List ℕ) → Under So (step_move_at p pending spot to)
      move_under None to = boxed p.selected false _ (first_move p.told to)
      move_under (Some (intents.Store name validity uid modseq)) to = so
      move_under (Some (intents.Shift from validity uid other)) to = meant_move p.told
      move_under (Some (intents.Put other validity uidnext)) to = so

  first_append : (selected : Option Selected) (told : Finding) (to : List ℕ) → Under So (append_first selected told to)
  first_append selected findings.Nothing to = tt {0}
  first_append selected findings.NoRow to = tt {0}
  first_append selected (findings.Row modseq set) to = tt {0}
  first_append selected findings.Barred to = tt {0}
  first_append selected (findings.Ended outcome) to = tt {0}
  first_append selected (findings.Next validity uidnext) to = either (is_selected_at selected to validity) _ _ (tt {0}) (tt {0})
  first_append selected (findings.Candidates uids) to = tt {0}
  first_append selected (findings.Probed verdict) to = tt {0}

  judged_append : (verdict : Verdict) (validity : ℕ) → Under So (append_judged verdict validity)
  judged_append verdicts.NotThere validity = tt {0}
  judged_append (verdicts.There uid) validity = tt {0}
  judged_append (verdicts.Several u v) validity = tt {0}

  module _ (to : List ℕ) (validity uidnext : ℕ) (so : So to validity) where
    open_append : (told : Finding) → Under So (append_open told to validity uidnext)
    open_append findings.Nothing = so
    open_append findings.NoRow = so
    open_append (findings.Row modseq set) = so
    open_append findings.Barred = so
    open_append (findings.Ended outcome) = so
    open_append (findings.Next told next) = tt {0}
    open_append (findings.Candidates uids) = tt {0}
    open_append (findings.Probed verdict) = judged_append verdict validity

    again_append : (resumed : Bool) (told : Finding) → Under So (append_again resumed told to validity uidnext)
    again_append false told = tt {0}
    again_append true told = open_append told

    module _ (p : Player) where
      boxed_append : (told : Finding) → Under So (append_in_box p to validity uidnext told)
      boxed_append told = either (is_selected_at p.selected to validity) _ (elsewhere true (above_at p.selected to validity) to validity) (again_append p.resumed told)
          (elsewhere_any (Under So) p.selected true to validity so (λ n a. tt {0}))

      meant_append : (told : Finding) → Under So (append_meant p to validity uidnext told)
      meant_append findings.Nothing = boxed_append findings.Nothing
      meant_append findings.NoRow = boxed_append findings.NoRow
      meant_append (findings.Row modseq set) = boxed_append (findings.Row modseq set)
      meant_append findings.Barred = boxed_append findings.Barred
      meant_append (findings.Ended outcome) = tt {0}
      meant_append (findings.Next told next) = boxed_append (findings.Next told next)
      meant_append (findings.Candidates uids) = boxed_append (findings.Candidates uids)
      meant_append (findings.Probed verdict) = boxed_append (findings.Probed verdict)

-- the UIDVALIDITY is that of the message, or of the intent
module _ (p : Player) (b : Meaning) where
  flag_place : (target : Target) (add : Bool) (flags : List (List ℕ)) (place : Found) → resolved b.queue target ≡ place →
      Under (λ n v. IsToHave n v b (actions.Flag target add flags)) (step_flag_found p b.pending place)
  flag_place target add flags (found.Real name validity uid) e =
      flag_under (λ n v. IsToHave n v b (actions.Flag target add flags)) (record { name = name; validity = validity; uid = uid }) (uid, e)
      p b.pending
  flag_place target add flags (found.NotYet by) e = tt {0}
  flag_place target add flags (found.Never by) e = tt {0}

  move_place : (target : Target) (to : List ℕ) (place : Found) → resolved b.queue target ≡ place →
      Under (λ n v. IsToHave n v b (actions.Move target to)) (step_move_found p b.pending to place)
  move_place target to (found.Real name validity uid) e =
      move_under (λ n v. IsToHave n v b (actions.Move target to)) (record { name = name; validity = validity; uid = uid }) (uid, e)
      p b.pending to
  move_place target to (found.NotYet by) e = tt {0}
  move_place target to (found.Never by) e = tt {0}

  append_place : (to : List ℕ) (flags : List (List ℕ)) (text id : List ℕ) (pending : Option Intent) → b.pending ≡ pending →
      Under (λ n v. IsToHave n v b (actions.Append to flags text id)) (step_append p pending to)
  append_place to flags text id None e = first_append (λ n v. IsToHave n v b (actions.Append to flags text id)) p.selected p.told to
  append_place to flags text id (Some (intents.Store name validity uid modseq)) e = tt {0}
  append_place to flags text id (Some (intents.Shift from validity uid other)) e = tt {0}
  append_place to flags text id (Some (intents.Put other validity uidnext)) e =
      meant_append (λ n v. IsToHave n v b (actions.Append to flags text id)) to validity uidnext (uidnext, other, refl, e) p p.told

  action_under : (action : Action) → Under (λ n v. IsToHave n v b action) (step_action p b action)
  action_under (actions.Flag target add flags) = flag_place target add flags (resolved b.queue target) refl
  action_under (actions.Move target to) = move_place target to (resolved b.queue target) refl
  action_under (actions.Append to flags text id) = append_place to flags text id b.pending refl

  under_maps : (P Q : List ℕ → ℕ → Type 0) → ((n : List ℕ) (v : ℕ) → P n v → Q n v) → (step : Step) → Under P step → Under Q step
  under_maps P Q f steps.Learn u = u
  under_maps P Q f (steps.Select name None) u = u
  under_maps P Q f (steps.Select name (Some v)) u = f name v u
  under_maps P Q f (steps.AskRow uid) u = u
  under_maps P Q f (steps.Search uidnext) u = u
  under_maps P Q f steps.AskIds u = u
  under_maps P Q f (steps.Intend intent) u = u
  under_maps P Q f (steps.Settle outcome) u = u
  under_maps P Q f steps.Send u = u
  under_maps P Q f steps.Finished u = u

  last_under : (known : Option Known) → Under (λ n v. OfDue (IsToHave n v b) b) (step_box known)
  last_under None = tt {0}
  last_under (Some known) = tt {0}

  due_under : (queued : Option Queued) → due_action b.queue ≡ queued → Under (λ n v. OfDue (IsToHave n v b) b) (step_due p b queued)
  due_under None e = last_under (slice_get b.boxes p.resynced)
  due_under (Some q) e =
      under_maps (λ n v. IsToHave n v b q.action) (λ n v. OfDue (IsToHave n v b) b) (λ n v so. record { queued = q; there = e; holds = so })
      (step_action p b q.action) (action_under q.action)

  learn_under : (learns : Option Resynced) → Under (λ n v. OfDue (IsToHave n v b) b) (step_learn p b learns)
  learn_under None = due_under (due_action b.queue) refl
  learn_under (Some told) = tt {0}

  step_under : Under (λ n v. OfDue (IsToHave n v b) b) (step_of p b)
  step_under = learn_under p.learns

-- the step that selects a mailbox needs that
pub selects_box : (p : Player) (b : Meaning) (name : List ℕ) (under : Option ℕ) → step_of p b ≡ steps.Select name under →
    need_of p b ≡ needs.Select name
selects_box p b name under e = ap (λ (step : Step). need_for step p b) e

many_why : (n : ℕ) (unheard : Unheard) → rows_fault (is_many n) ≡ Some unheard → (MAX_ROWS < n) × (unheard ≡ unheards.Rows n)
many_why n unheard =
    cond_both (nat_lt MAX_ROWS n) (Some n) None (λ (o : Option ℕ). rows_fault o ≡ Some unheard → (MAX_ROWS < n) × (unheard ≡ unheards.Rows n))
    (λ more e. (ltb-true MAX_ROWS n more, cc))
    (λ few e. absurd (cc))

module _ (p : Player) (b : Meaning) (delta : Delta) (name : List ℕ) (unheard : Unheard) where
  rows_why : need_of p b ≡ needs.Select name → rows_fault (is_many (rows_with name b delta)) ≡ Some unheard →
      WhyNotChosen unheard (Ok delta) p b
  rows_why selects e =
      let many : (MAX_ROWS < rows_with name b delta) × (unheard ≡ unheards.Rows (rows_with name b delta)) =
      many_why (rows_with name b delta) unheard e in
      subst (λ (x : Unheard). WhyNotChosen x (Ok delta) p b) (sym many.1)
      (delta, refl, record { name = name; selects = selects; many = many.0; is = refl })

  other_why : (old : ℕ) → need_of p b ≡ needs.Select name → OfDue (IsToHave name old b) b →
      target_fault (is_below (Some old) delta.validity) (rows_fault (is_many (rows_with name b delta))) ≡ Some unheard →
      WhyNotChosen unheard (Ok delta) p b
  other_why old selects have =
      cond_both (nat_lt delta.validity old) (Some (old, delta.validity)) None
      (λ (o : Option (ℕ × ℕ)). target_fault o (rows_fault (is_many (rows_with name b delta))) ≡ Some unheard →
      WhyNotChosen unheard (Ok delta) p b)
      (λ below e.
      let is : unheard ≡ unheards.Target old delta.validity = cc in
      subst (λ (x : Unheard). WhyNotChosen x (Ok delta) p b) (sym is) (
        delta,
        refl,
        record {
          below = ltb-true delta.validity old below;
          is_told = refl;
          name = name;
          selects = selects;
          to_have = have;
        },
      ))
      (λ same e. rows_why selects e)

  select_why : (under : Option ℕ) → need_of p b ≡ needs.Select name → SoUnder (λ v. OfDue (IsToHave name v b) b) under →
      target_fault (is_below under delta.validity) (rows_fault (is_many (rows_with name b delta))) ≡ Some unheard →
      WhyNotChosen unheard (Ok delta) p b
  select_why None selects so e = rows_why selects e
  select_why (Some old) selects so e = other_why old selects so e

box_why : (p : Player) (b : Meaning) (delta : Delta) (unheard : Unheard) (step : Step) → step_of p b ≡ step →
    Under (λ n v. OfDue (IsToHave n v b) b) step →
    box_fault b delta (wanted_by step) ≡ Some unheard → WhyNotChosen unheard (Ok delta) p b
box_why p b delta unheard steps.Learn is u e = absurd (cc)
box_why p b delta unheard (steps.Select name under) is u e = select_why p b delta name unheard under (selects_box p b name under is) u e
box_why p b delta unheard (steps.AskRow uid) is u e = absurd (cc)
box_why p b delta unheard (steps.Search uidnext) is u e = absurd (cc)
box_why p b delta unheard steps.AskIds is u e = absurd (cc)
box_why p b delta unheard (steps.Intend intent) is u e = absurd (cc)
box_why p b delta unheard (steps.Settle outcome) is u e = absurd (cc)
box_why p b delta unheard steps.Send is u e = absurd (cc)
box_why p b delta unheard steps.Finished is u e = absurd (cc)

memory_why : (p : Player) (b : Meaning) (told : Result Delta ResyncFault) (unheard : Unheard) → unheard ≡ unheards.Memory →
    WhyNotChosen unheard told p b
memory_why p b told unheard e = subst (λ (x : Unheard). WhyNotChosen x told p b) (sym e) (tt {0})

resync_why : (p : Player) (b : Meaning) (fault : ResyncFault) → WhyNotChosen (of_resync fault) (Err fault) p b
resync_why p b resyncs.Memory = tt {0}
resync_why p b resyncs.NoModSeq = refl
resync_why p b resyncs.NotSticky = refl
resync_why p b (resyncs.NoCode which) = refl
resync_why p b (resyncs.Validity old new) = refl
resync_why p b (resyncs.Unfit mark highest) = refl
resync_why p b (resyncs.BareRow index) = refl

pub chosen_why : (p : Player) (b : Meaning) (told : Result Delta ResyncFault) (unheard : Unheard) → IsChosenFault p b told unheard →
    WhyNotChosen unheard told p b
chosen_why p b (Err fault) unheard f =
    ⊎_elim (λ (e : unheard ≡ of_resync fault). subst (λ (x : Unheard). WhyNotChosen x (Err fault) p b) (sym e) (resync_why p b fault))
    (λ (e : unheard ≡ unheards.Memory). memory_why p b (Err fault) unheard e) f
chosen_why p b (Ok delta) unheard f =
    ⊎_elim (λ (e : box_fault b delta (wanted_by (step_of p b)) ≡ Some unheard). box_why p b delta unheard (step_of p b) refl
    (step_under p b) e)
    (λ (e : unheard ≡ unheards.Memory). memory_why p b (Ok delta) unheard e) f
