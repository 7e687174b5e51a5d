-- What was taken may be recorded, and a lawful server's reply lacks nothing.
use Rattle.action_queue.specs.Book.{Meaning, cache_at, learned}
use Rattle.action_queue.specs.Queues.{due, due_action}
use Rattle.action_queue.specs.declared.action.Action.{Action}
use Rattle.action_queue.specs.declared.book.Known.{Known}
use Rattle.action_queue.specs.declared.intent.Intent.{Intent}
use Rattle.action_queue.specs.declared.outcome.Outcome.{Outcome}
use Rattle.action_queue.specs.declared.queued.Queued.{Queued}
use Rattle.action_queue.specs.declared.rule.Version.TheVariants.{Second}
use Rattle.action_queue.specs.Writable.{HaveFewFlags}
use Rattle.imap_model.specs.CarriedOut.{Asks, Decides, OneRow, RowsSay}
use Rattle.imap_model.specs.Carrying.{Waiting}
use Rattle.imap_model.specs.Lookups.{box_at, validity_of}
use Rattle.imap_model.specs.Mutating.{is_mutating}
use Rattle.imap_model.specs.Remarks.{selected_box}
use Rattle.imap_model.specs.declared.code.Code.{Code}
use Rattle.imap_model.specs.declared.command.Command.{Command}
use Rattle.imap_model.specs.declared.ending.Ending.{Ending}
use Rattle.imap_model.specs.declared.mark.Mark.{Mark}
use Rattle.imap_model.specs.declared.replies.Replies.{Replies}
use Rattle.imap_model.specs.declared.server.Server.{Server}
use Rattle.mail_base.specs.declared.limits.TheConstants.{MAX_ROWS}
use Rattle.mailbox_cache.specs.declared.delta.Delta.{Delta}
use Rattle.playback.proofs.CodesTold.{copied_read, last_this, none_copied}
use Rattle.playback.proofs.Fetches.{row_read}
use Rattle.playback.proofs.Lawfulness.{read_lawful}
use Rattle.playback.proofs.Learnable.{may_learn, rows_within}
use Rattle.playback.proofs.Placed.{send_placed}
use Rattle.playback.proofs.Readings.{row_any, same_finding}
use Rattle.playback.proofs.Purposes.{AsksRow, Purpose, SendsIt, a_box, a_row, a_search, an_effect, purpose_of, selects_known, the_ids}
use Rattle.playback.proofs.Taking.{IsOwed, carried_by, owed_of}
use Rattle.playback.specs.Allowed.{IsReply}
use Rattle.playback.specs.Choosing.{FitsWanted, IsChosen, box_fault, chosen_box, chosen_due, chosen_for, chosen_in, is_below, is_many}
use Rattle.playback.specs.Choosing.{rows_fault, rows_with, target_fault, wanted_by}
use Rattle.book_laws.specs.Kept.{KeptBook}
use Rattle.playback.specs.Knows.{IsNeeded, Knows}
use Rattle.playback.specs.Needs.{IsBeside, IsNextBox, IsPlaced, IsPlain, IsReadyEvent, MayEnd, due_id, end_due, need_for, send_of}
use Rattle.playback.specs.Replying.{Hears, HearsDue, HearsIdsFor, HearsIdsOf, HearsStep, IsHeard, copied_code, found_uids, is_barred}
use Rattle.playback.specs.Replying.{lacked_by, lacked_in, lacks, last_copied, last_fetch, read_append_by, read_copied}
use Rattle.playback.specs.Replying.{read_meant, read_move_by, read_moved, read_of, read_sent}
use Rattle.book_laws.specs.Sound.{IsSound}
use Rattle.playback.specs.Steps.{step_box, step_due, step_learn, step_of}
use Rattle.playback.specs.Worlds.{World}
use Rattle.playback.specs.declared.finding.Finding.{Finding}
use Rattle.playback.specs.declared.finding.Resynced.{Resynced}
use Rattle.playback.specs.declared.finding.Selected.{Selected}
use Rattle.playback.specs.declared.need.Unheard.{Unheard}
use Rattle.playback.specs.declared.player.Player.{Player}
use Rattle.playback.specs.declared.step.Step.{Step}
use Rattle.qresync_core.specs.Fitting.{Fits}
use Rattle.std.proofs.Common.{Bool, List, [], None, Ok, Option, Some, ap, arith, cond, false, inl, inr, length, refl}
use Rattle.std.proofs.Common.{subst, sym, true, ℕ, ◌∙◌, ◌∷◌, ◌≡◌, ◌≢◌, ◌≤◌}
use Rattle.std.proofs.lemmas.Bool.{ltb-false}
use Rattle.std.specs.Option.{is_some}
use Rattle.std.specs.Prelude.{nat_lt, slice_get}
use Rattle.append_probe.specs.declared.verdict.Verdict.{Verdict}
use Rattle.append_probe.specs.declared.verdict.Verdict.TheVariants as verdicts
use Rattle.uid_sets.specs.declared.uid.UidRange.{UidRange}
use Rattle.action_queue.specs.declared.action.Action.TheVariants as actions
use Rattle.imap_model.specs.declared.command.Command.TheVariants as commands
use Rattle.imap_model.specs.declared.ending.Ending.TheVariants as endings
use Rattle.playback.specs.declared.finding.Finding.TheVariants as findings
use Rattle.action_queue.specs.declared.intent.Intent.TheVariants as intents
use Rattle.playback.specs.declared.step.Step.TheVariants as steps

-- where there is no fault, there aren't too many rows
no_target : (other : Option (ℕ × ℕ)) (later : Option Unheard) → target_fault other later ≡ None → later ≡ None
no_target None later e = e
no_target (Some pair) later e = absurd (cc)

few_rows : (many : Bool) (count : ℕ) → nat_lt MAX_ROWS count ≡ many → rows_fault (cond many (Some count) None) ≡ None → count ≤ MAX_ROWS
few_rows true count t e = absurd (cc)
few_rows false count t e = ltb-false MAX_ROWS count t

few_told : (b : Meaning) (delta : Delta) (name : List ℕ) (under : Option ℕ) →
    box_fault b delta (Some (record { name = name; under = under })) ≡ None →
    length (learned (cache_at name b.boxes) delta).rows ≤ MAX_ROWS
few_told b delta name under e =
    let count : ℕ = rows_with name b delta in
    few_rows (nat_lt MAX_ROWS count) count refl (no_target (is_below under delta.validity) (rows_fault (is_many count)) e)

module _ (p : Player) (b : Meaning) (delta : Delta) (fits : FitsWanted p b (Ok delta)) (sound : IsSound b) (beside : IsBeside p b) where
  -- the mailbox is the next one, where every action is settled
  box_next : (name : List ℕ) (under : Option ℕ) (o : Option Known) → slice_get b.boxes p.resynced ≡ o →
      step_box o ≡ steps.Select name under →
      (known : Known) × (slice_get b.boxes p.resynced ≡ Some known) × (known.name ≡ name)
  box_next name under None e s = absurd (cc)
  box_next name under (Some known) e s = (known, e, cc)

  due_next : (name : List ℕ) (under : Option ℕ) (o : Option Queued) → step_due p b o ≡ steps.Select name under →
      IsNextBox o (Some (record { name = name; delta = delta })) p.resynced b.boxes
  due_next name under None s = box_next name under (slice_get b.boxes p.resynced) refl s
  due_next name under (Some q) s = tt

  learn_next : (name : List ℕ) (under : Option ℕ) (o : Option Resynced) → step_learn p b o ≡ steps.Select name under →
      IsNextBox (due_action b.queue) (Some (record { name = name; delta = delta })) p.resynced b.boxes
  learn_next name under None s = due_next name under (due_action b.queue) s
  learn_next name under (Some told) s = absurd (cc)

  -- of what is kept nothing ends an action
  chosen_ends : (action : Action) → MayEnd (chosen_for action delta) b × IsPlain (chosen_for action delta)
  chosen_ends (actions.Flag target add flags) = (tt, tt)
  chosen_ends (actions.Move target to) = (tt, tt)
  chosen_ends (actions.Append to flags text id) = (tt, tt)

  due_ends : (o : Option Queued) → MayEnd (chosen_due o delta) b × IsPlain (chosen_due o delta)
  due_ends None = (tt, tt)
  due_ends (Some q) = chosen_ends q.action

  box_beside : (name : List ℕ) (under : Option ℕ) → step_of p b ≡ steps.Select name under →
      box_fault b delta (Some (record { name = name; under = under })) ≡ None → IsBeside (chosen_box p b delta name) b
  box_beside name under s none =
      let fit : Fits (cache_at name b.boxes) delta × HaveFewFlags delta.rows = fits name (ap (λ (x : Step). need_for x p b) s) in
      let few : length (learned (cache_at name b.boxes) delta).rows ≤ MAX_ROWS = few_told b delta name under none in
      let within : length delta.rows ≤ length (learned (cache_at name b.boxes) delta).rows =
      rows_within (cache_at name b.boxes) delta delta.rising in
      record {
        learns = record {
          lawful = record {
            version = Second;
            unbroken = may_learn Second b name delta (selects_known p b sound name under s).known fit.0 few;
          };
          second = refl;
          writable = (omega (arith, few, within), fit.1);
        };
        ends = (due_ends (due_action b.queue)).0;
        plain = λ _. (due_ends (due_action b.queue)).1;
        fresh = beside.fresh;
        placed = λ outcome is. absurd (subst IsPlain is (due_ends (due_action b.queue)).1);
        within = beside.within;
        last = beside.last;
        next = learn_next name under p.learns s;
      }

  step_beside : (step : Step) → step_of p b ≡ step → box_fault b delta (wanted_by step) ≡ None →
      IsBeside (chosen_in p b delta (wanted_by step)) b
  step_beside (steps.Select name under) s none = box_beside name under s none
  step_beside steps.Learn s none = beside
  step_beside (steps.AskRow uid) s none = beside
  step_beside (steps.Search uidnext) s none = beside
  step_beside steps.AskIds s none = beside
  step_beside (steps.Intend intent) s none = beside
  step_beside (steps.Settle outcome) s none = beside
  step_beside steps.Send s none = beside
  step_beside steps.Finished s none = beside

pub chosen_beside : (p : Player) (b : Meaning) (delta : Delta) (new : Player) → FitsWanted p b (Ok delta) → IsChosen p b (Ok delta) new →
    IsSound b →
    IsBeside p b → IsBeside new b
chosen_beside p b delta new fits chosen sound beside =
    subst (λ (x : Player). IsBeside x b) (sym chosen.1) (step_beside p b delta fits sound beside (step_of p b) refl chosen.0)

-- a finding that ends the action may end it
end_if : (b : Meaning) (finding : Finding) →
    ((outcome : Outcome) → finding ≡ findings.Ended outcome → IsReadyEvent b (end_due b outcome)) → MayEnd finding b
end_if b (findings.Ended outcome) f = f outcome refl
end_if b findings.Nothing f = tt
end_if b findings.NoRow f = tt
end_if b (findings.Row modseq so) f = tt
end_if b findings.Barred f = tt
end_if b (findings.Next validity uidnext) f = tt
end_if b (findings.Candidates uids) f = tt
end_if b (findings.Probed verdict) f = tt

-- what is so of what was found before, and of each finding that tells no end, is so of what is heard, where it is so of the reply to a command
module _ (p : Player) (b : Meaning) (permits : Bool) (r : Replies) (finding : Finding) (P : Finding → Type 0) (same : P p.told)
    (none : P findings.NoRow) (row : (modseq : ℕ) (so : Bool) → P (findings.Row modseq so)) (bars : P findings.Barred)
    (candidates : (uids : List UidRange) → P (findings.Candidates uids)) (probed : (verdict : Verdict) → P (findings.Probed verdict)) where
  as_before : finding ≡ p.told → P finding
  as_before e = subst P (sym e) same

  found_any : (set : List UidRange) → P (found_uids set)
  found_any [] = probed verdicts.NotThere
  found_any (range ∷ set) = candidates (range ∷ set)

  -- of the reply to the command of this action
  abbrev pub OfSent : Queued → Type 0
  OfSent q = (pending : Option Intent) → b.pending ≡ pending → step_of p b ≡ steps.Send → read_meant p.resumed q.action pending r ≡ Ok finding → P finding

  module _ (q : Queued) (sent : OfSent q) where
    ids_for : (uids : List UidRange) (action : Action) → p.told ≡ findings.Candidates uids →
        HearsIdsFor uids (findings.Candidates uids) action r finding → P finding
    ids_for uids (actions.Append to flags text id) t h = subst P (sym h.is) (probed h.verdict)
    ids_for uids (actions.Flag target add flags) t h = as_before (h ∙ sym t)
    ids_for uids (actions.Move target to) t h = as_before (h ∙ sym t)

    ids_of : (told : Finding) → p.told ≡ told → HearsIdsOf told q.action r finding → P finding
    ids_of (findings.Candidates uids) t h = ids_for uids q.action t h
    ids_of findings.Nothing t h = as_before (h ∙ sym t)
    ids_of findings.NoRow t h = as_before (h ∙ sym t)
    ids_of (findings.Row modseq so) t h = as_before (h ∙ sym t)
    ids_of findings.Barred t h = as_before (h ∙ sym t)
    ids_of (findings.Ended outcome) t h = as_before (h ∙ sym t)
    ids_of (findings.Next validity uidnext) t h = as_before (h ∙ sym t)
    ids_of (findings.Probed verdict) t h = as_before (h ∙ sym t)

    step_any : (step : Step) → step_of p b ≡ step → HearsStep step p q.action b.pending permits r finding → P finding
    step_any steps.Learn e h = as_before h
    step_any (steps.Select name under) e h = as_before h
    step_any (steps.AskRow uid) e h =
        row_any P (is_barred permits q.action b.pending) q.action none row (λ _. bars) (last_fetch uid r.untagged) finding h
    step_any (steps.Search uidnext) e h = subst P (sym h.is) (found_any h.uids)
    step_any steps.AskIds e h = ids_of p.told refl h
    step_any (steps.Intend intent) e h = as_before h
    step_any (steps.Settle outcome) e h = as_before h
    step_any steps.Send e h = sent b.pending refl e h
    step_any steps.Finished e h = as_before h

  pub heard_any : ((q : Queued) → due_action b.queue ≡ Some q → OfSent q) → (o : Option Queued) → due_action b.queue ≡ o →
      HearsDue p b o permits r finding → P finding
  heard_any sent None e h = as_before h
  heard_any sent (Some q) e h = step_any q (sent q e) (step_of p b) refl h

module _ (p : Player) (b : Meaning) (sound : IsSound b) (beside : IsBeside p b) (permits : Bool) (r : Replies) (finding : Finding) where
  sent_ends : (q : Queued) → due_action b.queue ≡ Some q → (pending : Option Intent) → b.pending ≡ pending →
      read_meant p.resumed q.action pending r ≡ Ok finding → MayEnd finding b
  sent_ends q there None h e = subst (λ (f : Finding). MayEnd f b) (same_finding findings.Nothing finding e) tt
  sent_ends q there (Some intent) h e =
      end_if b finding
      (λ outcome is. read_lawful b q there (sound.tries (due b.queue) q there) intent h p.resumed r outcome (e ∙ ap (λ (f : Finding). Ok f) is))

  -- where it tells an end, the mailbox of the pending intent is selected
  abbrev PlacedIf : Finding → Type 0
  PlacedIf f = (outcome : Outcome) → f ≡ findings.Ended outcome → (intent : Intent) → b.pending ≡ Some intent → IsPlaced intent p

  -- while a delta waits for its record nothing is heard
  learn_plain : (o : Option Resynced) → is_some o ≡ true → (q : Queued) →
      HearsStep (step_learn p b o) p q.action b.pending permits r finding → finding ≡ p.told
  learn_plain None t q h = absurd (cc)
  learn_plain (Some told) t q h = h

  due_plain : (o : Option Queued) → is_some p.learns ≡ true → HearsDue p b o permits r finding → finding ≡ p.told
  due_plain None t h = h
  due_plain (Some q) t h = learn_plain p.learns t q h

  heard_so : Hears p b permits r finding → IsBeside (record p { told = finding }) b
  heard_so h = record {
    learns = beside.learns;
    ends =
        heard_any p b permits r finding (λ (f : Finding). MayEnd f b) beside.ends tt (λ modseq so. tt) tt (λ uids. tt) (λ verdict. tt)
        (λ q there pending is step read. sent_ends q there pending is read) (due_action b.queue) refl h;
    placed =
        heard_any p b permits r finding PlacedIf beside.placed (λ outcome e. absurd (cc)) (λ modseq so outcome e. absurd (cc)) (λ outcome e. absurd (cc))
        (λ uids outcome e. absurd (cc)) (λ verdict outcome e. absurd (cc))
        (λ q there pending is step read outcome e intent meant. send_placed p b sound intent meant p.learns step) (due_action b.queue) refl h;
    plain = λ t. subst (λ (f : Finding). IsPlain f) (sym (due_plain (due_action b.queue) t h)) (beside.plain t);
    fresh = beside.fresh;
    within = beside.within;
    last = beside.last;
    next = beside.next;
  }

pub heard_beside : (p : Player) (b : Meaning) (permits : Bool) (r : Replies) (new : Player) → IsHeard p b permits r new → IsSound b →
    IsBeside p b →
    IsBeside new b
heard_beside p b permits r new heard sound beside =
    subst (λ (x : Player). IsBeside x b) (sym heard.is) (heard_so p b sound beside permits r heard.finding heard.hears)

-- a MOVE tells COPYUID of the one message, and an APPEND tells APPENDUID
module _ (c : Waiting) (s t : Server) (r : Replies) (after : Option (List ℕ)) (resumed : Bool) where
  move_whole : (uid : ℕ) (to : List ℕ) (ending : Ending) → Decides ending (commands.Shift uid to) c s r t after →
      lacked_in (read_move_by uid resumed (last_copied r.untagged r.code) ending) ≡ None
  move_whole uid to endings.Ok (inl x) =
      let copies : copied_code x.copied ≡ Some x.copied = ap copied_code x.copied_is ∙ ap (λ (code : Code). Some code) (sym x.copied_is) in
      ap (λ (o : Option Code). lacked_in (read_moved uid resumed o))
      (last_this x.copied copies (selected_box c.selected t.boxes) r.untagged r.code x.says x.code x.told)
      ∙ ap (λ (code : Code). lacked_in (read_copied uid code)) x.copied_is
      ∙ ap lacked_in (copied_read uid (validity_of (box_at to t.boxes)) x.effect.received)
  move_whole uid to endings.Ok (inr x) =
      ap (λ (o : Option Code). lacked_in (read_moved uid resumed o))
      (none_copied (selected_box c.selected s.boxes) r.untagged r.code x.says.untagged x.says.code)
  move_whole uid to endings.No x = refl
  move_whole uid to endings.Bad x = refl

  append_whole : (to : List ℕ) (flags : List (List ℕ)) (text : List ℕ) (ending : Ending) →
      Decides ending (commands.Append to flags text) c s r t after →
      lacked_in (read_append_by r.code ending) ≡ None
  append_whole to flags text endings.Ok x = ap (λ (code : Code). lacked_in (read_append_by code endings.Ok)) x.code
  append_whole to flags text endings.No x = refl
  append_whole to flags text endings.Bad x = refl

  sent_whole : (selected : Option Selected) (b : Meaning) (n : ℕ) (action : Action) (intent : Intent) →
      IsNeeded (send_of n action intent) c selected b →
      Decides r.ending c.command c s r t after → lacked_in (read_sent resumed action intent r) ≡ None
  sent_whole selected b n (actions.Flag target add flags) (intents.Store name validity uid modseq) i d = refl
  sent_whole selected b n (actions.Flag target add flags) (intents.Shift from validity uid to) i d = absurd i
  sent_whole selected b n (actions.Flag target add flags) (intents.Put to validity uidnext) i d = absurd i
  sent_whole selected b n (actions.Move target other) (intents.Store name validity uid modseq) i d = absurd i
  sent_whole selected b n (actions.Move target other) (intents.Shift from validity uid to) i d =
      move_whole uid to r.ending (subst (λ (x : Command). Decides r.ending x c s r t after) (ap (λ (x : Waiting). x.command) i.is) d)
  sent_whole selected b n (actions.Move target other) (intents.Put to validity uidnext) i d = absurd i
  sent_whole selected b n (actions.Append other flags text id) (intents.Store name validity uid modseq) i d = absurd i
  sent_whole selected b n (actions.Append other flags text id) (intents.Shift from validity uid to) i d = absurd i
  sent_whole selected b n (actions.Append other flags text id) (intents.Put to validity uidnext) i d =
      append_whole to flags text r.ending
      (subst (λ (x : Command). Decides r.ending x c s r t after) (ap (λ (x : Waiting). x.command) i.is) d)

-- by what is due
lacks_by : (p : Player) (b : Meaning) (permits : Bool) (r : Replies) (q : Queued) (step : Step) → due_action b.queue ≡ Some q →
    step_of p b ≡ step →
    lacked_in (read_of step p.resumed q.action b.pending permits r) ≡ None → lacks p b permits r ≡ None
lacks_by p b permits r q step e s h =
    ap (λ (o : Option Queued). lacked_by p b o permits r) e
    ∙ ap (λ (x : Step). lacked_in (read_of x p.resumed q.action b.pending permits r)) s ∙ h

module _ (p : Player) (b : Meaning) (w : World) (permits : Bool) (r : Replies) (c : Waiting) (owed : IsOwed r c p b w)
    (accepted : is_mutating c.command ≡ false → r.ending ≡ endings.Ok)
    (other : (name : List ℕ) (since : Option Mark) → c.command ≢ commands.Select name since) where
  abbrev before : Server
  before = owed.answered.said.before

  abbrev behind : Server
  behind = owed.answered.said.behind

  row_whole : (x : AsksRow p b c) → lacks p b permits r ≡ None
  row_whole x =
      let q : Queued = x.message.queued in
      let barred : Bool = is_barred permits q.action b.pending in
      let done : Decides r.ending (commands.FetchRow x.uid) c before r behind owed.answered.after =
      subst (λ (y : Command). Decides r.ending y c before r behind owed.answered.after) x.command (carried_by r c p b w owed) in
      let asked : Asks RowsSay (OneRow x.uid) c before r behind owed.answered.after =
      subst (λ (y : Ending). Decides y (commands.FetchRow x.uid) c before r behind owed.answered.after)
      (accepted (ap is_mutating x.command)) done in
      lacks_by p b permits r q (steps.AskRow x.uid) x.message.there x.step
      (ap lacked_in (row_read barred q.action x.uid asked.box r.untagged asked.says asked.tells))

  send_whole : (x : SendsIt p b w c) → lacks p b permits r ≡ None
  send_whole x =
      let q : Queued = x.sends.queued in
      lacks_by p b permits r q steps.Send x.sends.there x.step
      (ap (λ (o : Option Intent). lacked_in (read_meant p.resumed q.action o r)) x.sends.pending
      ∙ sent_whole c before behind r owed.answered.after p.resumed p.selected b (due_id b) q.action x.sends.intent x.command
      (carried_by r c p b w owed))

  whole_by : Purpose p b w c → lacks p b permits r ≡ None
  whole_by (a_row x) = row_whole x
  whole_by (an_effect x) = send_whole x
  whole_by (a_box x) = absurd (other x.name x.selects.since x.selects.is)
  whole_by (a_search x) = lacks_by p b permits r x.append.queued (steps.Search x.uidnext) x.append.there x.step refl
  whole_by (the_ids x) = lacks_by p b permits r x.found.append.queued steps.AskIds x.found.append.there x.step refl

-- a lawful server's reply to what was needed lacks nothing
pub heard_honest : (p : Player) (b : Meaning) (w : World) (permits : Bool) (r : Replies) → KeptBook b w.course.now w.waiting →
    IsReply r w → Knows p b w →
    lacks p b permits r ≡ None
heard_honest p b w permits r kept i known =
    let owed : IsOwed r i.command p b w = owed_of r p b w i kept known in
    whole_by p b w permits r i.command owed i.accepted i.no_select (purpose_of p b w i.command kept.sound known owed.needed)
