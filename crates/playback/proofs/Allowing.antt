-- What the player needs may be done, and what it records is true.
use Rattle.std.proofs.Common.{◌≡◌, ◌≢◌, inl, inr, ℕ, ◌≤◌, Bool, true, false, cond, eqb, List, [], length, Option, Some, None, refl, sym}
use Rattle.std.proofs.Common.{◌<◌, ◌∙◌, ap, subst}
use Rattle.std.proofs.lemmas.Bool.{both_ways, cond_both, eqb-true, eqb-false}
use Rattle.std.proofs.lemmas.Option.{same_Some}
use Rattle.std.specs.Option.{is_some}
use Rattle.std.specs.Prelude.{Err, IfOk, Ok, Result, slice_get}
use Rattle.std.specs.declared.alloc.AllocError.{AllocError}
use Rattle.imap_model.specs.Carrying.{Waiting}
use Rattle.imap_model.specs.Ours.{ours}
use Rattle.imap_model.specs.declared.command.Command.{Command}
use Rattle.imap_model.specs.declared.command.Command.TheVariants as commands
use Rattle.imap_model.specs.declared.deed.Deed.{Deed}
use Rattle.imap_model.specs.declared.ending.Ending.{Ending}
use Rattle.imap_model.specs.declared.ending.Ending.TheVariants as endings
use Rattle.imap_model.specs.declared.item.Item.{Item}
use Rattle.imap_model.specs.declared.replies.Replies.{Replies}
use Rattle.imap_model.specs.declared.response.Response.{Response}
use Rattle.imap_model.specs.declared.server.Server.{Server}
use Rattle.action_queue.specs.Book.{Meaning, cache_at}
use Rattle.action_queue.specs.Queues.{due, due_action, tries_due}
use Rattle.action_queue.specs.Rules.{is_no_flag, is_no_flag_of}
use Rattle.action_queue.specs.Targets.{resolved}
use Rattle.action_queue.specs.declared.action.Action.{Action}
use Rattle.action_queue.specs.declared.action.Action.TheVariants as actions
use Rattle.action_queue.specs.declared.book.Known.{Known}
use Rattle.action_queue.specs.declared.event.Event.TheVariants as events
use Rattle.action_queue.specs.declared.found.Found.{Found}
use Rattle.action_queue.specs.declared.found.Found.TheVariants as found
use Rattle.action_queue.specs.declared.intent.Intent.{Intent}
use Rattle.action_queue.specs.declared.intent.Intent.TheVariants as intents
use Rattle.action_queue.specs.declared.outcome.Kind.TheVariants as kinds
use Rattle.action_queue.specs.declared.outcome.Outcome.{Outcome}
use Rattle.action_queue.specs.declared.outcome.Outcome.TheVariants as outcomes
use Rattle.action_queue.specs.declared.queued.Queued.{Queued}
use Rattle.action_queue.specs.declared.target.Target.{Target}
use Rattle.append_probe.specs.Question.{append_id}
use Rattle.append_probe.specs.declared.verdict.Verdict.{Verdict}
use Rattle.append_probe.specs.declared.verdict.Verdict.TheVariants as verdicts
use Rattle.playback.proofs.Elsewhere.{IsAbove, elsewhere_any}
use Rattle.playback.specs.Steps.{above_at, elsewhere, renewed_as}
use Rattle.playback.specs.Why.{WasAboveIntent}
use Rattle.playback.specs.Allowed.{IsAllowed, MaySend}
use Rattle.playback.specs.Course.{AtMoment, Course}
use Rattle.book_laws.specs.InBox.{InBox, InBoxNow}
use Rattle.book_laws.specs.Kept.{KeptBook}
use Rattle.playback.specs.Knows.{HasEnded, IsTold, IsUnsent, Knows, Learning, OfAppend, OfPut, Rests, RowTold}
use Rattle.playback.specs.Needs.{IsReadyEvent, again, due_id, end_of, need_end, need_for, need_ids, need_learn, need_of, need_search, need_send, search_of, send_meant, send_of}
use Rattle.book_laws.specs.Of.{MutatingWaits, command_of, tag_of}
use Rattle.book_laws.specs.Once.{Fits}
use Rattle.book_laws.specs.Open.{IntentFacts, IsOpen, PutFacts, intent_name, intent_validity}
use Rattle.playback.specs.Replying.{flag_gone, last_fetch, names_modified, read_sent, read_store, read_stored}
use Rattle.book_laws.specs.Resolved.{Resolves}
use Rattle.playback.specs.Steps.{append_again, append_first, append_in_box, append_judged, append_meant, append_new, append_open, conflict}
use Rattle.playback.specs.Steps.{flag_again, flag_first, flag_judged, flag_meant, flag_new, flag_open, in_box, is_selected, is_selected_at}
use Rattle.playback.specs.Steps.{move_again, move_first, move_meant, move_open, select_any, step_action}
use Rattle.playback.specs.Steps.{step_append, step_box, step_due, step_flag_at, step_flag_found, step_learn, step_move_at, step_move_found}
use Rattle.playback.specs.Why.{AreTwo, IsMark, IsNever, IsOpenStill, RowAt, RowSo, RowWas, SomeRow, TellsNext, TwoWere, WasSelected}
use Rattle.playback.specs.Why.{RowIs, RowPassed, WasCarried, WasPassed, WhyIntent}
use Rattle.playback.specs.Worlds.{Among, IsUnder, World, name_of}
use Rattle.playback.specs.declared.finding.Finding.{Finding}
use Rattle.playback.specs.declared.finding.Finding.TheVariants as findings
use Rattle.playback.specs.declared.finding.Resynced.{Resynced}
use Rattle.playback.specs.declared.finding.Spot.{Spot}
use Rattle.playback.specs.declared.need.Need.{Need}
use Rattle.playback.specs.declared.need.Need.TheVariants as needs
use Rattle.playback.specs.declared.player.Player.{Player}
use Rattle.playback.specs.declared.step.Step.{Step}
use Rattle.playback.specs.declared.step.Step.TheVariants as steps
use Rattle.book_laws.proofs.Carrying.{nothing_waits}
use Rattle.book_laws.proofs.Lawful.{withdraw_flag}
use Rattle.playback.proofs.Lawfulness.{read_lawful}
use Rattle.playback.proofs.Trying.{IsAgain, again_is}
use Rattle.playback.proofs.Endings.{IsRight, ended_right, is_never_of, no_flag, no_move, suited_is}
use Rattle.playback.proofs.Onward.{IsIdle, idle}
use Rattle.book_laws.proofs.Queueing.{Suited}
use Rattle.book_laws.proofs.Resolving.{of_flag, of_move}
use Rattle.book_laws.proofs.Facts.{learned_validity, of_under}
use Rattle.playback.proofs.RowFacts.{IsAboutSpot, IsThat, RowThere, row_again, row_intends, row_is, row_mark, row_shifts, row_still}
use Rattle.playback.proofs.RowFacts.{row_weaker, selected_that, spot_at, under_that, was_at, was_map}

-- the message that an intent names is that of the action
store_same : (f : Found) (spot : Spot) (name : List ℕ) (validity uid modseq : ℕ) → f ≡ found.Real spot.name spot.validity spot.uid →
    f ≡ found.Real name validity uid →
    intents.Store name validity uid modseq ≡ intents.Store spot.name spot.validity spot.uid modseq
store_same f spot name validity uid modseq e g =
    let is : found.Real spot.name spot.validity spot.uid ≡ found.Real name validity uid = sym e ∙ g in cc

shift_same : (f : Found) (spot : Spot) (name : List ℕ) (validity uid : ℕ) (to other : List ℕ) →
    f ≡ found.Real spot.name spot.validity spot.uid →
    f ≡ found.Real name validity uid → other ≡ to →
    intents.Shift name validity uid other ≡ intents.Shift spot.name spot.validity spot.uid to
shift_same f spot name validity uid to other e g o =
    let is : found.Real spot.name spot.validity spot.uid ≡ found.Real name validity uid = sym e ∙ g in cc

-- what a reply to a STORE tells of a message that was changed names the intent's mod-sequence
gone_apart : (m : ℕ) (resumed : Bool) → ◌≡◌ {A = Result Finding Item} (Ok (flag_gone resumed)) (Ok (findings.Ended (outcomes.Conflict (kinds.FlagsChanged m)))) → ⊥
gone_apart m true e = absurd (cc)
gone_apart m false e = absurd (cc)

stored_apart : (uid : ℕ) (resumed : Bool) (m : ℕ) (told : List Response) (ending : Ending) →
    ◌≡◌ {A = Result Finding Item} (Ok (read_stored uid resumed told ending)) (Ok (findings.Ended (outcomes.Conflict (kinds.FlagsChanged m)))) → ⊥
stored_apart uid resumed m told endings.Ok =
    cond_both (is_some (last_fetch uid told)) (findings.Ended (outcomes.Done None)) (flag_gone resumed)
    (λ (f : Finding). ◌≡◌ {A = Result Finding Item} (Ok f) (Ok (findings.Ended (outcomes.Conflict (kinds.FlagsChanged m)))) → ⊥) (λ t e. absurd (cc))
    (λ f e. gone_apart m resumed e)
stored_apart uid resumed m told endings.No = λ e. absurd (cc)
stored_apart uid resumed m told endings.Bad = λ e. absurd (cc)

store_mark : (uid mark : ℕ) (resumed : Bool) (r : Replies) (m : ℕ) →
    ◌≡◌ {A = Result Finding Item} (Ok (read_store uid mark resumed r)) (Ok (findings.Ended (outcomes.Conflict (kinds.FlagsChanged m)))) → mark ≡ m
store_mark uid mark resumed r m =
    cond_both (names_modified uid r.code) (findings.Ended (outcomes.Conflict (kinds.FlagsChanged mark))) (read_stored uid resumed r.untagged r.ending)
    (λ (f : Finding). ◌≡◌ {A = Result Finding Item} (Ok f) (Ok (findings.Ended (outcomes.Conflict (kinds.FlagsChanged m)))) → mark ≡ m)
    (λ t e. cc) (λ f e. absurd (stored_apart uid resumed m r.untagged r.ending e))

changed_mark : (resumed : Bool) (r : Replies) (m : ℕ) (action : Action) (intent : Intent) → is_no_flag_of action ≡ false → (queue : List Queued) →
    Suited queue action intent → read_sent resumed action intent r ≡ Ok (findings.Ended (outcomes.Conflict (kinds.FlagsChanged m))) → IsMark (Some intent) m
changed_mark resumed r m (actions.Flag target add asked) (intents.Store name validity uid mark) flag queue s k = store_mark uid mark resumed r m k
changed_mark resumed r m (actions.Flag target add asked) (intents.Shift from validity uid to) flag queue s k = absurd s
changed_mark resumed r m (actions.Flag target add asked) (intents.Put to validity uidnext) flag queue s k = absurd s
changed_mark resumed r m (actions.Move target to) intent flag queue s k = absurd (cc)
changed_mark resumed r m (actions.Append to flags text id) intent flag queue s k = absurd (cc)

passed_by : (b : Meaning) (c : Course) (m : ℕ) (pending : Option Intent) → IsMark pending m →
    WasCarried (λ action e. RowIs (RowPassed m action) b.queue action e.before) b c → WasPassed pending b c
passed_by b c m None mark was = absurd mark
passed_by b c m (Some (intents.Store name validity uid modseq)) mark was =
    subst (λ (n : ℕ). WasCarried (λ action e. RowIs (RowPassed n action) b.queue action e.before) b c) (sym mark) was
passed_by b c m (Some (intents.Shift from validity uid to)) mark was = absurd mark
passed_by b c m (Some (intents.Put to validity uidnext)) mark was = absurd mark

-- the step's need may be done
abbrev pub IsGoodStep : Player → Meaning → World → Step → Type 0
IsGoodStep p b w step = IsAllowed (need_for step p b) p b w

module _ (p : Player) (b : Meaning) (w : World) (kept : KeptBook b w.course.now w.waiting) (known : Knows p b w) (rest : IsIdle p b w)
    (q : Queued) (e : due_action b.queue ≡ Some q) where
  quiet : MutatingWaits w.waiting → ⊥
  quiet = subst (λ (o : Option Waiting). MutatingWaits o → ⊥) (sym rest.waiting) nothing_waits

  -- an outcome that fits and is true
  settles : (outcome : Outcome) → again (tries_due b.queue) outcome ≡ None → IsRight b w p.resumed outcome → IsGoodStep p b w (steps.Settle outcome)
  settles outcome last r =
      subst (λ (o : Option ℕ). IsAllowed (need_end (due_id b) outcome o) p b w) (sym last) ((quiet, r.0), r.1)

  -- a try is taken back: its STORE had no effect
  withdrawn_ok : (outcome : Outcome) → HasEnded outcome p.resumed b w → (next : ℕ) → again (tries_due b.queue) outcome ≡ Some next →
      IsAllowed (needs.Withdraw (due_id b) next) p b w
  withdrawn_ok outcome h next more =
      let a : IsAgain (tries_due b.queue) outcome next = again_is (tries_due b.queue) outcome next more in
      let r : IsRight b w p.resumed (outcomes.Conflict (kinds.FlagsChanged a.mark)) =
      subst (IsRight b w p.resumed) a.is (ended_right b w p.resumed h.queued h.there h.said h.sent h.intent h.pending h.seen outcome h.read) in
      let ready : IsReadyEvent b (events.Withdraw (due_id b) next) =
      subst (λ (o : Option ℕ). IsReadyEvent b (end_of (due_id b) outcome o)) more
      (read_lawful b h.queued h.there (kept.sound.tries (due b.queue) h.queued h.there) h.intent h.pending p.resumed h.said.reply outcome h.read) in
      let flag : is_no_flag_of h.queued.action ≡ false = sym (ap is_no_flag h.there) ∙ withdraw_flag b (due_id b) next ready.lawful in
      let mark : IsMark (Some h.intent) a.mark =
      changed_mark p.resumed h.said.reply a.mark h.queued.action h.intent flag b.queue
      (suited_is b kept.sound h.queued h.there h.intent h.pending)
      (h.read ∙ ap (λ (x : Outcome). Ok (findings.Ended x)) a.is) in (
        (quiet, r.0),
        subst (λ (o : Option Intent). WasPassed o b w.course) (sym h.pending) (passed_by b w.course a.mark (Some h.intent) mark r.1.1),
      )

  ended_by : (outcome : Outcome) → HasEnded outcome p.resumed b w → (o : Option ℕ) → again (tries_due b.queue) outcome ≡ o →
      IsAllowed (need_end (due_id b) outcome o) p b w
  ended_by outcome h None last =
      let r = ended_right b w p.resumed h.queued h.there h.said h.sent h.intent h.pending h.seen outcome h.read in ((quiet, r.0), r.1)
  ended_by outcome h (Some next) more = withdrawn_ok outcome h next more

  ended_ok : (outcome : Outcome) → HasEnded outcome p.resumed b w → IsGoodStep p b w (steps.Settle outcome)
  ended_ok outcome h = ended_by outcome h (again (tries_due b.queue) outcome) refl

  at_most_one : length (ours (due_id b) w.course.now.history) ≤ 1
  at_most_one = kept.once.once

  -- the mailbox that is selected
  under_of : (name : List ℕ) (validity : ℕ) → is_selected_at p.selected name validity ≡ true → IsUnder name validity w.course.now
  under_of name validity selected =
      let that : IsThat p.selected name validity = selected_that p.selected name validity selected in
      under_that p.selected name validity w.course.now that (known.valid that.sel (rest.resting.selected ∙ that.is))

  named_of : (name : List ℕ) (validity : ℕ) → is_selected_at p.selected name validity ≡ true → name_of w.selected ≡ Some name
  named_of name validity selected =
      let that : IsThat p.selected name validity = selected_that p.selected name validity selected in
      ap name_of (rest.resting.selected ∙ that.is) ∙ ap (λ (n : List ℕ). Some n) that.same_name

  -- or that is selected under a greater UIDVALIDITY
  under_above : (name : List ℕ) (validity n : ℕ) → IsAbove p.selected name validity n → IsUnder name n w.course.now
  under_above name validity n a =
      subst (λ (x : List ℕ). IsUnder x n w.course.now) a.named
      (subst (λ (v : ℕ). IsUnder a.sel.name v w.course.now) a.told (known.valid a.sel (rest.resting.selected ∙ a.is)))

  -- without an intent: the message's mailbox was renewed
  changed_ok : b.pending ≡ None → (spot : Spot) → IsAboutSpot b.queue q.action spot → (n : ℕ) → spot.validity < n → IsUnder spot.name n w.course.now →
      IsGoodStep p b w (conflict (kinds.ValidityChanged spot.validity n))
  changed_ok free spot about n l now =
      settles (outcomes.Conflict (kinds.ValidityChanged spot.validity n)) refl (
        kept.once.idle free,
        (
          known.fresh free,
          record { queued = q; there = e; holds = (spot.name, spot.uid, about, l, (w.course.now, inl refl, now)) },
        ),
      )

  -- an intent that is true and whose facts hold may be recorded
  intends : b.pending ≡ None → (intent : Intent) →
      InBoxNow (IntentFacts q.action [] intent) (intent_name intent) (intent_validity intent) w.course.now.boxes →
      WhyIntent intent b w.course → IsGoodStep p b w (steps.Intend intent)
  intends free intent facts why = (
    (
      quiet,
      λ x y.
          subst (λ (z : Queued). InBoxNow (IntentFacts z.action (ours (due_id b) w.course.now.history) intent) (intent_name intent)
          (intent_validity intent) w.course.now.boxes)
          (same_Some q x (sym e ∙ y))
          (subst (λ (l : List Deed). InBoxNow (IntentFacts q.action l intent) (intent_name intent)
          (intent_validity intent) w.course.now.boxes)
          (sym (kept.once.idle free)) facts),
    ),
    why,
  )

  -- the command of the intent may be sent
  may_send : (intent : Intent) → b.pending ≡ Some intent → (command : Command) (name : List ℕ) → name_of w.selected ≡ Some name →
      IsUnder (intent_name intent) (intent_validity intent) w.course.now →
      command_of (tag_of (due_id b) q) q.action intent ≡ Some
      (record { selected = Some name; tag = tag_of (due_id b) q; command = command }) →
      ours (due_id b) w.course.now.history ≡ [] → send_of (due_id b) q.action intent ≡ needs.Send (due_id b) command →
      IsGoodStep p b w steps.Send
  may_send intent pending command name named at is none sent =
      let need : need_send (due_id b) (due_action b.queue) b.pending ≡ needs.Send (due_id b) command =
      ap (λ (o : Option Queued). need_send (due_id b) o b.pending) e ∙ ap (λ (o : Option Intent). send_meant (due_id b) q.action o) pending
      ∙ sent in
      let may : MaySend (due_id b) command b w = record {
        quiet = quiet;
        sends = record { selected = name_of w.selected; tag = tag_of (due_id b) q; command = command };
        of_tag = record { queued = q; there = e; number = refl; is = refl };
        is_of = record {
          intent = intent;
          pending = pending;
          queued = q;
          there = e;
          is = is ∙ ap (λ (x : Option (List ℕ)). Some (record { selected = x; tag = tag_of (due_id b) q; command = command })) (sym named);
          none = none;
          at = at;
        };
      } in
      subst (λ (x : Need). IsAllowed x p b w) (sym need) may

  suits_of : (intent : Intent) → b.pending ≡ Some intent → Suited b.queue q.action intent
  suits_of intent pending = suited_is b kept.sound q e intent pending

  -- a step in the selected mailbox
  boxed : (meant : Bool) (spot : Spot) (step : Step) → (is_selected p.selected spot ≡ true → IsGoodStep p b w step) →
      (is_selected p.selected spot ≡ false → (n : ℕ) → spot.validity < n → IsUnder spot.name n w.course.now →
      IsGoodStep p b w (conflict (renewed_as meant spot.validity n))) → IsGoodStep p b w (in_box p.selected meant spot step)
  boxed meant spot step f above =
      cond_both (is_selected p.selected spot) step (elsewhere meant (above_at p.selected spot.name spot.validity) spot.name spot.validity)
      (λ (s : Step). IsGoodStep p b w s) f
      (λ t. elsewhere_any (λ (s : Step). IsGoodStep p b w s) p.selected meant spot.name spot.validity tt
      (λ n a. above t n a.above (under_above spot.name spot.validity n a)))

  -- where an earlier run recorded the intent
  module _ (resumed : p.resumed ≡ true) (told : Finding) (unsent : IsUnsent told p.resumed b w) where
    open_still : IsOpenStill p.resumed b w.course
    open_still = record {
      open_then = resumed;
      as_many = ap (λ (l : List Deed). length l) (sym (unsent.same w.course.first known.course.first));
    }

    -- its facts at an earlier moment
    opened : (intent : Intent) → b.pending ≡ Some intent → (s : Server) → Among s w →
        IsOpen q.action (ours (due_id b) s.history) intent s.boxes
    opened intent pending s a = known.resumed resumed s a intent pending q e

  -- with one: the intent's mailbox was renewed, and it wasn't this run that recorded the intent
  reset_ok : (told : Finding) → IsUnsent told p.resumed b w → (intent : Intent) → b.pending ≡ Some intent →
      is_selected_at p.selected (intent_name intent) (intent_validity intent) ≡ false → (n : ℕ) → intent_validity intent < n →
      IsUnder (intent_name intent) n w.course.now → IsGoodStep p b w (conflict (kinds.ResetAfterLoss (intent_validity intent) n))
  reset_ok told unsent intent pending apart n l now = by p.resumed refl
    where
      by : (r : Bool) → p.resumed ≡ r → IsGoodStep p b w (conflict (kinds.ResetAfterLoss (intent_validity intent) n))
      by false r = absurd (both_ways (is_selected_at p.selected (intent_name intent) (intent_validity intent)) apart (known.placed r intent pending))
      by true r =
          settles (outcomes.Conflict (kinds.ResetAfterLoss (intent_validity intent) n)) refl (
            at_most_one,
            (
              open_still r told unsent,
              subst (λ (o : Option Intent). WasAboveIntent (intent_validity intent) n o w.course) (sym pending)
                  (refl, l, (w.course.now, inl refl, now)),
            ),
          )

  -- of a message
  module _ (spot : Spot) (about : IsAboutSpot b.queue q.action spot) where
    at_moment : (modseq : ℕ) (so : Bool) → RowWas (RowTold modseq so) b w.course → AtMoment (RowThere spot (RowAt modseq q.action)) w.course
    at_moment modseq so i =
        was_at b w.course q e spot about (RowAt modseq) (was_map (RowTold modseq so) (RowAt modseq) b w.course (row_mark modseq so) i)

  -- a flag action
  module _ (target : Target) (add : Bool) (asked : List (List ℕ)) (a : q.action ≡ actions.Flag target add asked)
      (spot : Spot) (is : resolved b.queue target ≡ found.Real spot.name spot.validity spot.uid) where
    flag_about : IsAboutSpot b.queue q.action spot
    flag_about = subst (λ (x : Action). IsAboutSpot b.queue x spot) (sym a) is

    new_ok : b.pending ≡ None → is_selected p.selected spot ≡ true →
        (told : Finding) (unsent : IsUnsent told p.resumed b w) (modseq : ℕ) (so : Bool) →
        RowWas (RowTold modseq so) b w.course → IsGoodStep p b w (flag_new modseq so spot)
    new_ok free selected told unsent modseq true i =
        settles (outcomes.Conflict kinds.AlreadySo) refl (
          kept.once.idle free,
          (
            known.fresh free,
            was_map (RowTold modseq true) (RowSo (λ _. Unit {0})) b w.course
                (row_weaker (λ (k : ℕ). k ≡ modseq) (λ _. Unit {0}) (λ k h. tt)) i,
          ),
        )
    new_ok free selected told unsent modseq false i =
        let m : AtMoment (RowThere spot (RowAt modseq q.action)) w.course = at_moment spot flag_about modseq false i in
        intends free (intents.Store spot.name spot.validity spot.uid modseq)
        (row_intends (due_id b) spot modseq q.action m.0 w.course.now (known.since m.0 m.1) (sym (unsent.same m.0 m.1)) m.2
        (under_of spot.name spot.validity selected)) i

    first_ok : b.pending ≡ None → (told : Finding) → IsTold told b w.course → Rests told p.resumed b w →
        IsGoodStep p b w (in_box p.selected false spot (flag_first told spot))
    first_ok free findings.NoRow i r =
        boxed false spot (conflict kinds.MessageGone) (λ t. settles (outcomes.Conflict kinds.MessageGone) refl
        (kept.once.idle free, (known.fresh free, i))) (λ f. changed_ok free spot flag_about)
    first_ok free (findings.Row modseq so) i r =
        boxed false spot (flag_new modseq so spot) (λ t. new_ok free t (findings.Row modseq so) r modseq so i) (λ f. changed_ok free spot flag_about)
    first_ok free findings.Barred i r =
        boxed false spot (conflict kinds.NotPermanent) (λ t. settles (outcomes.Conflict kinds.NotPermanent) refl (kept.once.idle free, i))
        (λ f. changed_ok free spot flag_about)
    first_ok free findings.Nothing i r = boxed false spot (steps.AskRow spot.uid) (λ t. tt) (λ f. changed_ok free spot flag_about)
    first_ok free (findings.Ended outcome) i r = boxed false spot (steps.AskRow spot.uid) (λ t. tt) (λ f. changed_ok free spot flag_about)
    first_ok free (findings.Next validity uidnext) i r = boxed false spot (steps.AskRow spot.uid) (λ t. tt) (λ f. changed_ok free spot flag_about)
    first_ok free (findings.Candidates uids) i r = boxed false spot (steps.AskRow spot.uid) (λ t. tt) (λ f. changed_ok free spot flag_about)
    first_ok free (findings.Probed verdict) i r = boxed false spot (steps.AskRow spot.uid) (λ t. tt) (λ f. changed_ok free spot flag_about)

    module _ (modseq : ℕ) (pending : b.pending ≡ Some (intents.Store spot.name spot.validity spot.uid modseq)) where
      abbrev store : Intent
      store = intents.Store spot.name spot.validity spot.uid modseq

      flag_send : is_selected p.selected spot ≡ true → ours (due_id b) w.course.now.history ≡ [] → IsGoodStep p b w steps.Send
      flag_send selected none =
          may_send store pending (commands.Store spot.uid modseq add asked) spot.name (named_of spot.name spot.validity selected) (under_of spot.name spot.validity selected)
          (ap (λ (x : Action). command_of (tag_of (due_id b) q) x store) a) none (ap (λ (x : Action). send_of (due_id b) x store) a)

      is_mark : IsMark b.pending modseq
      is_mark = subst (λ (o : Option Intent). IsMark o modseq) (sym pending) refl

      -- the row passed the mark
      unsure_ok : p.resumed ≡ true → (told : Finding) (unsent : IsUnsent told p.resumed b w) (new : ℕ) (so : Bool) → new ≢ modseq →
          RowWas (RowTold new so) b w.course →
          IsGoodStep p b w (cond so (conflict kinds.FoundSo) (conflict (kinds.StoreUnsure modseq new)))
      unsure_ok resumed told unsent new true apart i =
          settles (outcomes.Conflict kinds.FoundSo) refl (
            at_most_one,
            (
              open_still resumed told unsent,
              (
                modseq,
                is_mark,
                was_map (RowTold new true) (RowSo (λ (k : ℕ). k ≢ modseq)) b w.course
                    (row_weaker (λ (k : ℕ). k ≡ new) (λ (k : ℕ). k ≢ modseq) (λ k h g. apart (sym h ∙ g))) i,
              ),
            ),
          )
      unsure_ok resumed told unsent new false apart i =
          settles (outcomes.Conflict (kinds.StoreUnsure modseq new)) refl (at_most_one, (open_still resumed told unsent, is_mark, apart, i))

      judged_ok : p.resumed ≡ true → is_selected p.selected spot ≡ true →
          (told : Finding) (unsent : IsUnsent told p.resumed b w) (new : ℕ) (so : Bool) →
          RowWas (RowTold new so) b w.course → IsGoodStep p b w (flag_judged modseq new so)
      judged_ok resumed selected told unsent new so i =
          let m : AtMoment (RowThere spot (RowAt new q.action)) w.course = at_moment spot flag_about new so i in
          cond_both (eqb new modseq) steps.Send (cond so (conflict kinds.FoundSo) (conflict (kinds.StoreUnsure modseq new)))
          (λ (s : Step). IsGoodStep p b w s)
          (λ t.
          let row : RowThere spot (RowAt modseq q.action) m.0 =
          subst (λ (k : ℕ). RowThere spot (RowAt k q.action) m.0) (eqb-true new modseq t) m.2 in
          flag_send selected
          (sym (unsent.same m.0 m.1) ∙ row_again spot modseq q.action (ours (due_id b) m.0.history) m.0
          (opened resumed told unsent store pending m.0 m.1) row))
          (λ f. unsure_ok resumed told unsent new so (eqb-false new modseq f) i)

      open_ok : p.resumed ≡ true → is_selected p.selected spot ≡ true → (told : Finding) → IsTold told b w.course →
          IsUnsent told p.resumed b w →
          IsGoodStep p b w (flag_open modseq told spot)
      open_ok resumed selected findings.NoRow i unsent =
          settles (outcomes.Conflict kinds.GoneAfterLoss) refl (at_most_one, (open_still resumed findings.NoRow unsent, i))
      open_ok resumed selected (findings.Row new so) i unsent = judged_ok resumed selected (findings.Row new so) unsent new so i
      open_ok resumed selected findings.Nothing i unsent = tt
      open_ok resumed selected findings.Barred i unsent = tt
      open_ok resumed selected (findings.Ended outcome) i unsent = tt
      open_ok resumed selected (findings.Next validity uidnext) i unsent = tt
      open_ok resumed selected (findings.Candidates uids) i unsent = tt
      open_ok resumed selected (findings.Probed verdict) i unsent = tt

      again_ok : (resumed : Bool) → p.resumed ≡ resumed → is_selected p.selected spot ≡ true → (told : Finding) → IsTold told b w.course →
          IsUnsent told p.resumed b w → IsGoodStep p b w (flag_again resumed modseq told spot)
      again_ok false r selected told i unsent = flag_send selected (unsent.none r)
      again_ok true r selected told i unsent = open_ok r selected told i unsent

      again_in : (told : Finding) → IsTold told b w.course → IsUnsent told p.resumed b w →
          IsGoodStep p b w (in_box p.selected true spot (flag_again p.resumed modseq told spot))
      again_in told i unsent =
          boxed true spot (flag_again p.resumed modseq told spot) (λ t. again_ok p.resumed refl t told i unsent) (reset_ok told unsent store pending)

      meant_ok : (told : Finding) → IsTold told b w.course → Rests told p.resumed b w → IsGoodStep p b w (flag_meant p modseq spot told)
      meant_ok (findings.Ended outcome) i r = ended_ok outcome r
      meant_ok findings.Nothing i r = again_in findings.Nothing i r
      meant_ok findings.NoRow i r = again_in findings.NoRow i r
      meant_ok (findings.Row new so) i r = again_in (findings.Row new so) i r
      meant_ok findings.Barred i r = again_in findings.Barred i r
      meant_ok (findings.Next validity uidnext) i r = again_in (findings.Next validity uidnext) i r
      meant_ok (findings.Candidates uids) i r = again_in (findings.Candidates uids) i r
      meant_ok (findings.Probed verdict) i r = again_in (findings.Probed verdict) i r

    flag_at_ok : (pending : Option Intent) → b.pending ≡ pending → IsGoodStep p b w (step_flag_at p pending spot)
    flag_at_ok None h = first_ok h p.told known.told rest.resting.rests
    flag_at_ok (Some (intents.Store name validity uid modseq)) h =
        let s : Suited b.queue (actions.Flag target add asked) (intents.Store name validity uid modseq) =
        subst (λ (x : Action). Suited b.queue x (intents.Store name validity uid modseq)) a
        (suits_of (intents.Store name validity uid modseq) h) in
        let same : intents.Store name validity uid modseq ≡ intents.Store spot.name spot.validity spot.uid modseq =
        store_same (resolved b.queue target) spot name validity uid modseq is s in
        meant_ok modseq (h ∙ ap (λ (x : Intent). Some x) same) p.told known.told rest.resting.rests
    flag_at_ok (Some (intents.Shift from validity uid to)) h = tt
    flag_at_ok (Some (intents.Put to validity uidnext)) h = tt

  -- a move
  module _ (target : Target) (to : List ℕ) (a : q.action ≡ actions.Move target to)
      (spot : Spot) (is : resolved b.queue target ≡ found.Real spot.name spot.validity spot.uid) where
    move_about : IsAboutSpot b.queue q.action spot
    move_about = subst (λ (x : Action). IsAboutSpot b.queue x spot) (sym a) is

    move_new_ok : b.pending ≡ None → is_selected p.selected spot ≡ true →
        (told : Finding) (unsent : IsUnsent told p.resumed b w) (modseq : ℕ) (so : Bool) →
        RowWas (RowTold modseq so) b w.course → IsGoodStep p b w (steps.Intend (intents.Shift spot.name spot.validity spot.uid to))
    move_new_ok free selected told unsent modseq so i =
        let m : AtMoment (RowThere spot (RowAt modseq q.action)) w.course = at_moment spot move_about modseq so i in
        intends free (intents.Shift spot.name spot.validity spot.uid to)
        (row_shifts (due_id b) spot modseq q.action m.0 w.course.now (known.since m.0 m.1) (sym (unsent.same m.0 m.1)) m.2
        (under_of spot.name spot.validity selected))
        (was_map (RowTold modseq so) SomeRow b w.course (row_is modseq so) i)

    move_first_ok : b.pending ≡ None → (told : Finding) → IsTold told b w.course → Rests told p.resumed b w →
        IsGoodStep p b w (in_box p.selected false spot (move_first told spot to))
    move_first_ok free findings.NoRow i r =
        boxed false spot (conflict kinds.MessageGone) (λ t. settles (outcomes.Conflict kinds.MessageGone) refl
        (kept.once.idle free, (known.fresh free, i))) (λ f. changed_ok free spot move_about)
    move_first_ok free (findings.Row modseq so) i r =
        boxed false spot (steps.Intend (intents.Shift spot.name spot.validity spot.uid to))
        (λ t. move_new_ok free t (findings.Row modseq so) r modseq so i) (λ f. changed_ok free spot move_about)
    move_first_ok free findings.Nothing i r = boxed false spot (steps.AskRow spot.uid) (λ t. tt) (λ f. changed_ok free spot move_about)
    move_first_ok free findings.Barred i r = boxed false spot (steps.AskRow spot.uid) (λ t. tt) (λ f. changed_ok free spot move_about)
    move_first_ok free (findings.Ended outcome) i r = boxed false spot (steps.AskRow spot.uid) (λ t. tt) (λ f. changed_ok free spot move_about)
    move_first_ok free (findings.Next validity uidnext) i r = boxed false spot (steps.AskRow spot.uid) (λ t. tt) (λ f. changed_ok free spot move_about)
    move_first_ok free (findings.Candidates uids) i r = boxed false spot (steps.AskRow spot.uid) (λ t. tt) (λ f. changed_ok free spot move_about)
    move_first_ok free (findings.Probed verdict) i r = boxed false spot (steps.AskRow spot.uid) (λ t. tt) (λ f. changed_ok free spot move_about)

    module _ (pending : b.pending ≡ Some (intents.Shift spot.name spot.validity spot.uid to)) where
      abbrev shift : Intent
      shift = intents.Shift spot.name spot.validity spot.uid to

      move_send : is_selected p.selected spot ≡ true → ours (due_id b) w.course.now.history ≡ [] → IsGoodStep p b w steps.Send
      move_send selected none =
          may_send shift pending (commands.Shift spot.uid to) spot.name (named_of spot.name spot.validity selected) (under_of spot.name spot.validity selected)
          (ap (λ (x : Action). command_of (tag_of (due_id b) q) x shift) a) none (ap (λ (x : Action). send_of (due_id b) x shift) a)

      move_still : p.resumed ≡ true → is_selected p.selected spot ≡ true →
          (told : Finding) (unsent : IsUnsent told p.resumed b w) (modseq : ℕ) (so : Bool) →
          RowWas (RowTold modseq so) b w.course → IsGoodStep p b w steps.Send
      move_still resumed selected told unsent modseq so i =
          let m : AtMoment (RowThere spot (RowAt modseq q.action)) w.course = at_moment spot move_about modseq so i in
          move_send selected
          (sym (unsent.same m.0 m.1) ∙ row_still spot modseq q.action (ours (due_id b) m.0.history) m.0
          (opened resumed told unsent shift pending m.0 m.1) m.2)

      move_open_ok : p.resumed ≡ true → is_selected p.selected spot ≡ true → (told : Finding) → IsTold told b w.course →
          IsUnsent told p.resumed b w →
          IsGoodStep p b w (move_open told spot)
      move_open_ok resumed selected findings.NoRow i unsent =
          settles (outcomes.Conflict kinds.SourceGone) refl (at_most_one, (open_still resumed findings.NoRow unsent, i))
      move_open_ok resumed selected (findings.Row modseq so) i unsent =
          move_still resumed selected (findings.Row modseq so) unsent modseq so i
      move_open_ok resumed selected findings.Nothing i unsent = tt
      move_open_ok resumed selected findings.Barred i unsent = tt
      move_open_ok resumed selected (findings.Ended outcome) i unsent = tt
      move_open_ok resumed selected (findings.Next validity uidnext) i unsent = tt
      move_open_ok resumed selected (findings.Candidates uids) i unsent = tt
      move_open_ok resumed selected (findings.Probed verdict) i unsent = tt

      move_again_ok : (resumed : Bool) → p.resumed ≡ resumed → is_selected p.selected spot ≡ true → (told : Finding) →
          IsTold told b w.course →
          IsUnsent told p.resumed b w → IsGoodStep p b w (move_again resumed told spot)
      move_again_ok false r selected told i unsent = move_send selected (unsent.none r)
      move_again_ok true r selected told i unsent = move_open_ok r selected told i unsent

      move_again_in : (told : Finding) → IsTold told b w.course → IsUnsent told p.resumed b w →
          IsGoodStep p b w (in_box p.selected true spot (move_again p.resumed told spot))
      move_again_in told i unsent =
          boxed true spot (move_again p.resumed told spot) (λ t. move_again_ok p.resumed refl t told i unsent) (reset_ok told unsent shift pending)

      move_meant_ok : (told : Finding) → IsTold told b w.course → Rests told p.resumed b w → IsGoodStep p b w (move_meant p spot told)
      move_meant_ok (findings.Ended outcome) i r = ended_ok outcome r
      move_meant_ok findings.Nothing i r = move_again_in findings.Nothing i r
      move_meant_ok findings.NoRow i r = move_again_in findings.NoRow i r
      move_meant_ok (findings.Row modseq so) i r = move_again_in (findings.Row modseq so) i r
      move_meant_ok findings.Barred i r = move_again_in findings.Barred i r
      move_meant_ok (findings.Next validity uidnext) i r = move_again_in (findings.Next validity uidnext) i r
      move_meant_ok (findings.Candidates uids) i r = move_again_in (findings.Candidates uids) i r
      move_meant_ok (findings.Probed verdict) i r = move_again_in (findings.Probed verdict) i r

    move_at_ok : (pending : Option Intent) → b.pending ≡ pending → IsGoodStep p b w (step_move_at p pending spot to)
    move_at_ok None h = move_first_ok h p.told known.told rest.resting.rests
    move_at_ok (Some (intents.Shift from validity uid other)) h =
        let s : Suited b.queue (actions.Move target to) (intents.Shift from validity uid other) =
        subst (λ (x : Action). Suited b.queue x (intents.Shift from validity uid other)) a
        (suits_of (intents.Shift from validity uid other) h) in
        let same : intents.Shift from validity uid other ≡ intents.Shift spot.name spot.validity spot.uid to =
        shift_same (resolved b.queue target) spot from validity uid to other is s.0 s.1 in
        move_meant_ok (h ∙ ap (λ (x : Intent). Some x) same) p.told known.told rest.resting.rests
    move_at_ok (Some (intents.Store name validity uid modseq)) h = tt
    move_at_ok (Some (intents.Put other validity uidnext)) h = tt

  -- an append
  module _ (to : List ℕ) (flags : List (List ℕ)) (text id : List ℕ) (a : q.action ≡ actions.Append to flags text id) where
    -- what is said of the append that is due, of this one
    of_this : (P : List ℕ → List ℕ → Type 0) → OfAppend P b → P to id
    of_this P o =
        let q_is : o.queued ≡ q = same_Some o.queued q (sym o.there ∙ e) in
        let is : actions.Append o.to o.flags o.text o.id ≡ actions.Append to flags text id =
        sym o.action ∙ ap (λ (x : Queued). x.action) q_is ∙ a in
        let t : o.to ≡ to = cc in
        let i : o.id ≡ id = cc in
        subst (λ (x : List ℕ). P x id) t (subst (λ (x : List ℕ). P o.to x) i o.holds)

    new_put_ok : b.pending ≡ None → (validity uidnext : ℕ) → IsTold (findings.Next validity uidnext) b w.course →
        IsUnsent (findings.Next validity uidnext) p.resumed b w → IsGoodStep p b w (append_new p.selected to validity uidnext)
    new_put_ok free validity uidnext i unsent =
        cond_both (is_selected_at p.selected to validity) (steps.Intend (intents.Put to validity uidnext)) (select_any to)
        (λ (s : Step). IsGoodStep p b w s)
        (λ t.
        let holds : InBoxNow (PutFacts id uidnext validity []) to validity w.course.now.boxes =
        of_under (under_of to validity t)
        (of_this (λ x y. InBox (PutFacts y uidnext validity []) x validity w.course.now.boxes) unsent.holds) in
        intends free (intents.Put to validity uidnext)
        (record {
          box = holds.box;
          there = holds.there;
          same = holds.same;
          facts = subst (λ (x : Action). PutFacts (append_id x) uidnext validity [] holds.box) (sym a) holds.facts;
        })
        (of_this (λ x y. WasSelected x (TellsNext validity uidnext) w.course) i))
        (λ f. tt)

    first_put_ok : b.pending ≡ None → (told : Finding) → IsTold told b w.course → Rests told p.resumed b w →
        IsGoodStep p b w (append_first p.selected told to)
    first_put_ok free (findings.Next validity uidnext) i r = new_put_ok free validity uidnext i r
    first_put_ok free findings.Nothing i r = tt
    first_put_ok free findings.NoRow i r = tt
    first_put_ok free (findings.Row modseq so) i r = tt
    first_put_ok free findings.Barred i r = tt
    first_put_ok free (findings.Ended outcome) i r = tt
    first_put_ok free (findings.Candidates uids) i r = tt
    first_put_ok free (findings.Probed verdict) i r = tt

    module _ (validity uidnext : ℕ) (pending : b.pending ≡ Some (intents.Put to validity uidnext)) where
      abbrev put : Intent
      put = intents.Put to validity uidnext

      of_put : (P : List ℕ → List ℕ → ℕ → ℕ → Type 0) → OfPut P b → P to id validity uidnext
      of_put P o =
          let q_is : o.append.queued ≡ q = same_Some o.append.queued q (sym o.append.there ∙ e) in
          let is : actions.Append o.append.to o.append.flags o.append.text o.append.id ≡ actions.Append to flags text id =
          sym o.append.action ∙ ap (λ (x : Queued). x.action) q_is ∙ a in
          let p_is : intents.Put o.append.to o.validity o.uidnext ≡ put =
          same_Some (intents.Put o.append.to o.validity o.uidnext) put (sym o.pending ∙ pending) in
          let t : o.append.to ≡ to = cc in
          let i : o.append.id ≡ id = cc in
          let v : o.validity ≡ validity = cc in
          let l : o.uidnext ≡ uidnext = cc in
          subst (λ (x : List ℕ). P x id validity uidnext) t
          (subst (λ (x : List ℕ). P o.append.to x validity uidnext) i
          (subst (λ (x : ℕ). P o.append.to o.append.id x uidnext) v (subst (λ (x : ℕ). P o.append.to o.append.id o.validity x) l o.holds)))

      put_send : is_selected_at p.selected to validity ≡ true → ours (due_id b) w.course.now.history ≡ [] → IsGoodStep p b w steps.Send
      put_send selected none =
          may_send put pending (commands.Append to flags text) to (named_of to validity selected) (under_of to validity selected)
          (ap (λ (x : Action). command_of (tag_of (due_id b) q) x put) a) none (ap (λ (x : Action). send_of (due_id b) x put) a)

      verdict_ok : p.resumed ≡ true → is_selected_at p.selected to validity ≡ true → (verdict : Verdict) →
          IsTold (findings.Probed verdict) b w.course →
          IsUnsent (findings.Probed verdict) p.resumed b w → IsGoodStep p b w (append_judged verdict validity)
      verdict_ok resumed selected verdicts.NotThere i unsent = put_send selected unsent.holds
      verdict_ok resumed selected (verdicts.There uid) i unsent =
          settles (outcomes.Done (Some (record { validity = validity; uid = uid }))) refl (
            of_put (λ x y v l. Fits (outcomes.Done (Some (record { validity = v; uid = uid })))
                (ours (due_id b) w.course.now.history)) unsent.holds,
            tt,
          )
      verdict_ok resumed selected (verdicts.Several first second) i unsent =
          let two : AtMoment (λ s. InBoxNow (AreTwo first second uidnext id) to validity s.boxes) w.course =
          of_put (λ x y v l. AtMoment (λ s. InBoxNow (AreTwo first second l y) x v s.boxes) w.course) i in
          settles (outcomes.Conflict (kinds.Ambiguous first second)) refl (
            at_most_one,
            (
              open_still resumed (findings.Probed (verdicts.Several first second)) unsent,
              record {
                queued = q;
                there = e;
                holds = subst (λ (x : Action). TwoWere first second w.course b.pending x) (sym a)
                    (subst (λ (o : Option Intent). TwoWere first second w.course o (actions.Append to flags text id)) (sym pending) two);
              },
            ),
          )

      ids_ok : (told : Finding) → p.told ≡ told → IsGoodStep p b w steps.AskIds
      ids_ok (findings.Candidates uids) h = subst (λ (x : Finding). IsAllowed (need_ids x) p b w) (sym h) tt
      ids_ok findings.Nothing h = subst (λ (x : Finding). IsAllowed (need_ids x) p b w) (sym h) tt
      ids_ok findings.NoRow h = subst (λ (x : Finding). IsAllowed (need_ids x) p b w) (sym h) tt
      ids_ok (findings.Row modseq so) h = subst (λ (x : Finding). IsAllowed (need_ids x) p b w) (sym h) tt
      ids_ok findings.Barred h = subst (λ (x : Finding). IsAllowed (need_ids x) p b w) (sym h) tt
      ids_ok (findings.Ended outcome) h = subst (λ (x : Finding). IsAllowed (need_ids x) p b w) (sym h) tt
      ids_ok (findings.Next v l) h = subst (λ (x : Finding). IsAllowed (need_ids x) p b w) (sym h) tt
      ids_ok (findings.Probed verdict) h = subst (λ (x : Finding). IsAllowed (need_ids x) p b w) (sym h) tt

      search_ok : (low : ℕ) → IsGoodStep p b w (steps.Search low)
      search_ok low =
          subst (λ (o : Option Queued). IsAllowed (need_search low o) p b w) (sym e)
          (subst (λ (x : Action). IsAllowed (search_of low x) p b w) (sym a) tt)

      open_put_ok : p.resumed ≡ true → is_selected_at p.selected to validity ≡ true → (told : Finding) → IsTold told b w.course →
          IsUnsent told p.resumed b w →
          IsGoodStep p b w (append_open told to validity uidnext)
      open_put_ok resumed selected (findings.Probed verdict) i unsent = verdict_ok resumed selected verdict i unsent
      open_put_ok resumed selected (findings.Candidates uids) i unsent = ids_ok p.told refl
      open_put_ok resumed selected (findings.Next v l) i unsent = search_ok uidnext
      open_put_ok resumed selected findings.Nothing i unsent = tt
      open_put_ok resumed selected findings.NoRow i unsent = tt
      open_put_ok resumed selected (findings.Row modseq so) i unsent = tt
      open_put_ok resumed selected findings.Barred i unsent = tt
      open_put_ok resumed selected (findings.Ended outcome) i unsent = tt

      again_put_ok : (resumed : Bool) → p.resumed ≡ resumed → is_selected_at p.selected to validity ≡ true → (told : Finding) →
          IsTold told b w.course →
          IsUnsent told p.resumed b w → IsGoodStep p b w (append_again resumed told to validity uidnext)
      again_put_ok false r selected told i unsent = put_send selected (unsent.none r)
      again_put_ok true r selected told i unsent = open_put_ok r selected told i unsent

      put_in : (told : Finding) → IsTold told b w.course → IsUnsent told p.resumed b w →
          IsGoodStep p b w (append_in_box p to validity uidnext told)
      put_in told i unsent =
          cond_both (is_selected_at p.selected to validity) (append_again p.resumed told to validity uidnext)
          (elsewhere true (above_at p.selected to validity) to validity) (λ (s : Step). IsGoodStep p b w s)
          (λ t. again_put_ok p.resumed refl t told i unsent)
          (λ f. elsewhere_any (λ (s : Step). IsGoodStep p b w s) p.selected true to validity tt
          (λ n above. reset_ok told unsent put pending f n above.above (under_above to validity n above)))

      put_meant_ok : (told : Finding) → IsTold told b w.course → Rests told p.resumed b w →
          IsGoodStep p b w (append_meant p to validity uidnext told)
      put_meant_ok (findings.Ended outcome) i r = ended_ok outcome r
      put_meant_ok findings.Nothing i r = put_in findings.Nothing i r
      put_meant_ok findings.NoRow i r = put_in findings.NoRow i r
      put_meant_ok (findings.Row modseq so) i r = put_in (findings.Row modseq so) i r
      put_meant_ok findings.Barred i r = put_in findings.Barred i r
      put_meant_ok (findings.Next v l) i r = put_in (findings.Next v l) i r
      put_meant_ok (findings.Candidates uids) i r = put_in (findings.Candidates uids) i r
      put_meant_ok (findings.Probed verdict) i r = put_in (findings.Probed verdict) i r

    append_ok : (pending : Option Intent) → b.pending ≡ pending → IsGoodStep p b w (step_append p pending to)
    append_ok None h = first_put_ok h p.told known.told rest.resting.rests
    append_ok (Some (intents.Put other validity uidnext)) h =
        let s : Suited b.queue (actions.Append to flags text id) (intents.Put other validity uidnext) =
        subst (λ (x : Action). Suited b.queue x (intents.Put other validity uidnext)) a (suits_of (intents.Put other validity uidnext) h) in
        put_meant_ok validity uidnext (h ∙ ap (λ (x : List ℕ). Some
        (intents.Put x validity uidnext)) s) p.told known.told rest.resting.rests
    append_ok (Some (intents.Store name validity uid modseq)) h = tt
    append_ok (Some (intents.Shift from validity uid other)) h = tt

  -- no intent is pending for an action whose message never comes
  never_free : ((intent : Intent) → Suited b.queue q.action intent → ⊥) → (pending : Option Intent) → b.pending ≡ pending → b.pending ≡ None
  never_free f None h = h
  never_free f (Some intent) h = absurd (f intent (suits_of intent h))

  never_ok : (by : ℕ) → ((intent : Intent) → Suited b.queue q.action intent → ⊥) → IsNever b.queue by q.action →
      IsGoodStep p b w (conflict (kinds.TargetUnknown by))
  never_ok by f why =
      settles (outcomes.Conflict (kinds.TargetUnknown by)) refl (
        kept.once.idle
            (never_free f b.pending refl),
        record { queued = q; there = e; holds = why },
      )

  flag_ok : (target : Target) (add : Bool) (asked : List (List ℕ)) → q.action ≡ actions.Flag target add asked → Resolves b target →
      IsGoodStep p b w (step_flag_found p b.pending (resolved b.queue target))
  flag_ok target add asked a (inl m) =
      subst (λ (f : Found). IsGoodStep p b w (step_flag_found p b.pending f)) (sym m.is)
      (flag_at_ok target add asked a (spot_at m.name m.validity m.uid) m.is b.pending refl)
  flag_ok target add asked a (inr n) =
      subst (λ (f : Found). IsGoodStep p b w (step_flag_found p b.pending f)) (sym n.is)
      (never_ok n.by (λ intent s. no_flag b target add asked n.by n.is intent (subst (λ (x : Action). Suited b.queue x intent) a s))
      (subst (λ (x : Action). IsNever b.queue n.by x) (sym a) (is_never_of (resolved b.queue target) n.by n.is)))

  move_ok : (target : Target) (to : List ℕ) → q.action ≡ actions.Move target to → Resolves b target →
      IsGoodStep p b w (step_move_found p b.pending to (resolved b.queue target))
  move_ok target to a (inl m) =
      subst (λ (f : Found). IsGoodStep p b w (step_move_found p b.pending to f)) (sym m.is)
      (move_at_ok target to a (spot_at m.name m.validity m.uid) m.is b.pending refl)
  move_ok target to a (inr n) =
      subst (λ (f : Found). IsGoodStep p b w (step_move_found p b.pending to f)) (sym n.is)
      (never_ok n.by (λ intent s. no_move b target to n.by n.is intent (subst (λ (x : Action). Suited b.queue x intent) a s))
      (subst (λ (x : Action). IsNever b.queue n.by x) (sym a) (is_never_of (resolved b.queue target) n.by n.is)))

  action_ok : (action : Action) → q.action ≡ action → IsGoodStep p b w (step_action p b action)
  action_ok (actions.Flag target add asked) a = flag_ok target add asked a (of_flag b kept.sound q e target add asked a)
  action_ok (actions.Move target to) a = move_ok target to a (of_move b kept.sound q e target to a)
  action_ok (actions.Append to flags text id) a = append_ok to flags text id a b.pending refl

module _ (p : Player) (b : Meaning) (w : World) (kept : KeptBook b w.course.now w.waiting) (known : Knows p b w) (rest : IsIdle p b w) where
  box_ok : (o : Option Known) → IsGoodStep p b w (step_box o)
  box_ok None = tt
  box_ok (Some k) = tt

  due_ok : (q : Option Queued) → due_action b.queue ≡ q → IsGoodStep p b w (step_due p b q)
  due_ok None e = box_ok (slice_get b.boxes p.resynced)
  due_ok (Some q) e = action_ok p b w kept known rest q e q.action refl

  learns_ok : (learns : Option Resynced) → p.learns ≡ learns → Learning learns p b w.course.now → IsGoodStep p b w (step_learn p b learns)
  learns_ok None h l = due_ok (due_action b.queue) refl
  learns_ok (Some told) h l =
      let v : IsUnder told.name told.delta.validity w.course.now =
      known.valid (record { name = told.name; validity = told.delta.validity }) (rest.resting.selected ∙ l.selected) in
      subst (λ (o : Option Resynced). IsAllowed (need_learn o) p b w) (sym h) (
        of_under
            (subst (λ (k : ℕ). IsUnder told.name k w.course.now) (sym (learned_validity (cache_at told.name b.boxes) told.delta)) v) l.fresh,
        tt,
      )

-- at any moment at which nothing is owed
pub allowed_need : (p : Player) (b : Meaning) (w : World) → KeptBook b w.course.now w.waiting → w.owed ≡ None → Knows p b w →
    IsAllowed (need_of p b) p b w
allowed_need p b w kept o known = learns_ok p b w kept known (idle p b w o known) p.learns refl known.learns

-- the same of what a call gives
pub needed_allowed : (p : Player) (b : Meaning) (r : Result Need AllocError) → IfOk r (λ need. need ≡ need_of p b) →
    IfOk r (λ need. (w : World) → KeptBook b w.course.now w.waiting → w.owed ≡ None → Knows p b w → IsAllowed need p b w)
needed_allowed p b (Ok need) is = λ w kept o known. subst (λ (x : Need). IsAllowed x p b w) (sym is) (allowed_need p b w kept o known)
needed_allowed p b (Err error) is = tt
