-- A reply is taken.
use Rattle.action_queue.specs.Book.{Meaning}
use Rattle.action_queue.specs.Queues.{due_action}
use Rattle.action_queue.specs.declared.action.Action.{Action}
use Rattle.action_queue.specs.declared.intent.Intent.{Intent}
use Rattle.action_queue.specs.declared.outcome.Outcome.{Outcome}
use Rattle.action_queue.specs.declared.queued.Queued.{Queued}
use Rattle.append_probe.specs.Laws.{Counts, Covers, SearchCovers, VerdictCounts}
use Rattle.append_probe.specs.Laws as probes
use Rattle.append_probe.specs.Marked.{at_least, marked}
use Rattle.append_probe.specs.Question.{append_id, question_of, question_part}
use Rattle.append_probe.specs.declared.verdict.Verdict.{Verdict}
use Rattle.imap_model.proofs.Remarking.{here, there}
use Rattle.imap_model.specs.CarriedOut.{Asks, CarriesOut, Decides, Fulfils, OneRow, RowsSay}
use Rattle.imap_model.specs.Carrying.{Waiting}
use Rattle.imap_model.specs.Lookups.{box_at}
use Rattle.imap_model.specs.Mutating.{is_mutating}
use Rattle.imap_model.specs.Ours.{ours}
use Rattle.imap_model.specs.Remarks.{selected_box}
use Rattle.imap_model.specs.WellFormed.{IsWellFormedBox}
use Rattle.imap_model.specs.declared.command.Command.{Command}
use Rattle.imap_model.specs.declared.deed.Deed.{Deed}
use Rattle.imap_model.specs.declared.ending.Ending.{Ending}
use Rattle.imap_model.specs.declared.mark.Mark.{Mark}
use Rattle.imap_model.specs.declared.replies.Replies.{Replies}
use Rattle.imap_model.specs.declared.server.Mailbox.{Mailbox}
use Rattle.mailbox_cache.specs.declared.row.Row.{Row}
use Rattle.book_laws.proofs.Deducing.{put_again, put_found}
use Rattle.playback.proofs.Fetches.{row_finding, row_read}
use Rattle.playback.proofs.Moments.{grows_given, sent_grows, since_same}
use Rattle.playback.proofs.Onward.{knows_again, rest_now}
use Rattle.book_laws.proofs.PlainDeeds.{asked_decides}
use Rattle.playback.proofs.Purposes.{AsksIds, AsksRow, OfPending, Purpose, Searches, SendsIt, a_box, a_row, a_search, an_effect}
use Rattle.playback.proofs.Purposes.{learns_none, purpose_of, the_ids}
use Rattle.playback.proofs.Readings.{IfRead, append_ends, if_read, move_ends, same_finding, store_ends}
use Rattle.book_laws.proofs.Facts.{now_in}
use Rattle.playback.proofs.RowFacts.{IsThat, selected_that, under_that}
use Rattle.playback.specs.Allowed.{IsReply, LacksFlags, PermitsTruly}
use Rattle.playback.specs.Course.{AtMoment, IsAmong, Said}
use Rattle.book_laws.specs.InBox.{InBox, InBoxNow}
use Rattle.book_laws.specs.Kept.{KeptBook}
use Rattle.playback.specs.Knows.{Came, Covered, HasCome, Holds, IsFetched, IsNeeded, IsQuiet, IsSent, IsTold, IsUnsent, ReplyIsOwed}
use Rattle.playback.specs.Knows.{Knows, Learning, OfPut, Rests, RowTold, with_rows}
use Rattle.playback.specs.Needs.{due_id, need_of, send_of}
use Rattle.book_laws.specs.Once.{Fits}
use Rattle.book_laws.specs.Open.{IsOpen, PutFacts}
use Rattle.playback.specs.Replying.{Hears, HearsDue, HearsFound, HearsIds, HearsIdsOf, HearsStep, IsHeard, found_uids}
use Rattle.playback.specs.Replying.{is_barred, is_so, last_copied, last_fetch, read_meant, read_row, read_sent}
use Rattle.playback.specs.Steps.{is_selected_at, step_of}
use Rattle.playback.specs.Why.{AreTwo, IsAbout, NoRow, OfDue, RowWas, TellsLack, WasRefused, WasSelected}
use Rattle.playback.specs.Worlds.{IsUnder, World, given, name_of, selected_after}
use Rattle.playback.specs.declared.finding.Finding.{Finding}
use Rattle.playback.specs.declared.finding.Resynced.{Resynced}
use Rattle.playback.specs.declared.finding.Selected.{Selected}
use Rattle.playback.specs.declared.player.Player.{Player}
use Rattle.playback.specs.declared.step.Step.{Step}
use Rattle.qresync_core.specs.Fresh.{server_row}
use Rattle.std.proofs.Common.{Bool, List, [], None, Ok, Option, Some, ap, false, inl, not, refl, subst, sym, true, ℕ}
use Rattle.std.proofs.Common.{◌&&◌, ◌∙◌, ◌∷◌, ◌≡◌, ◌≢◌, ◌≤◌, leb}
use Rattle.std.proofs.lemmas.Bool.{and_parts, cond_both, leb-true, not-true}
use Rattle.std.proofs.lemmas.Option.{same_Some}
use Rattle.std.specs.Option.{is_none}
use Rattle.std.specs.Prelude.{Contains}
use Rattle.uid_sets.specs.declared.uid.UidRange.{UidRange}
use Rattle.action_queue.specs.declared.action.Action.TheVariants as actions
use Rattle.imap_model.specs.declared.command.Command.TheVariants as commands
use Rattle.imap_model.specs.declared.ending.Ending.TheVariants as endings
use Rattle.playback.specs.declared.finding.Finding.TheVariants as findings
use Rattle.action_queue.specs.declared.intent.Intent.TheVariants as intents
use Rattle.action_queue.specs.declared.outcome.Outcome.TheVariants as outcomes
use Rattle.playback.specs.declared.step.Step.TheVariants as steps
use Rattle.append_probe.specs.declared.verdict.Verdict.TheVariants as verdicts

-- the answer to the command that is owed
pub record IsOwed (r : Replies) (c : Waiting) (p : Player) (b : Meaning) (w : World) : Type 0 where
  pub needed : IsNeeded (need_of p b) c p.selected b
  pub answered : ReplyIsOwed c p b w
  pub is : answered.said.reply ≡ r
  pub was_said : IsAmong answered.said w.course.said

-- a command that is needed doesn't ask for all rows
never_all : (p : Player) (b : Meaning) (w : World) (c : Waiting) → Purpose p b w c → c.command ≢ commands.FetchAll
never_all p b w c (a_row x) e = let h : commands.FetchRow x.uid ≡ commands.FetchAll = sym x.command ∙ e in absurd (cc)
never_all p b w c (an_effect x) e = let h : true ≡ false = sym x.mutating ∙ ap is_mutating e in absurd (cc)
never_all p b w c (a_box x) e = let h = sym x.selects.is ∙ e in absurd (cc)
never_all p b w c (a_search x) e =
    let h : commands.Search x.uidnext (question_part x.append.id) ≡ commands.FetchAll = sym x.command ∙ e in absurd (cc)
never_all p b w c (the_ids x) e = let h : commands.FetchIds x.found.uids ≡ commands.FetchAll = sym x.command ∙ e in absurd (cc)

-- so what was said last is its answer
last_said : (w : World) (c : Waiting) (rows : Option Said) (said other : Said) (rest others : List Said) → c.command ≢ commands.FetchAll →
    ((e : Said) → rows ≡ Some e → IsFetched said e w) → other.command ≡ c → with_rows rows (said ∷ rest) ≡ other ∷ others → said ≡ other
last_said w c None said other rest others n f a = λ e. cc
last_said w c (Some rows) said other rest others n f a = λ e.
    let is : rows ≡ other = cc in
    let all : other.command.command ≡ commands.FetchAll = sym (ap (λ (x : Said). x.command.command) is) ∙ (f rows refl).asks in
    absurd (n (sym (ap (λ (x : Waiting). x.command) a) ∙ all))

one_of_all : (x y : Said) (rest : List Said) (l : List Said) → l ≡ y ∷ rest → x ≡ y → IsAmong x l
one_of_all x y rest l e is = subst (λ (k : List Said). IsAmong x k) (sym e) (inl is)

came_owed : (r : Replies) (p : Player) (b : Meaning) (w : World) (i : IsReply r w) → KeptBook b w.course.now w.waiting → Knows p b w →
    (owed waiting : Option Waiting) → owed ≡ Some i.command → waiting ≡ None → Came owed waiting p b w → IsOwed r i.command p b w
came_owed r p b w i kept k None None = λ o n c. absurd (cc)
came_owed r p b w i kept k None (Some x) = λ o n c. absurd (cc)
came_owed r p b w i kept k (Some y) (Some x) = λ o n c. absurd (cc)
came_owed r p b w i kept k (Some y) None = λ o n c.
    let y_is : y ≡ i.command = same_Some y i.command o in
    let purpose : Purpose p b w y = purpose_of p b w y kept.sound k c.0 in
    let is : c.1.said ≡ i.said =
    last_said w y c.1.rows c.1.said i.said c.1.rest i.rest (never_all p b w y purpose) c.1.fetched (i.asks ∙ sym y_is)
    (sym c.1.last ∙ i.last) in
    subst (λ (z : Waiting). IsOwed r z p b w) y_is
    (record {
      needed = c.0;
      answered = c.1;
      is = ap (λ (x : Said). x.reply) is ∙ i.is;
      was_said = one_of_all c.1.said i.said i.rest w.course.said i.last is;
    })

pub owed_of : (r : Replies) (p : Player) (b : Meaning) (w : World) (i : IsReply r w) → KeptBook b w.course.now w.waiting → Knows p b w →
    IsOwed r i.command p b w
owed_of r p b w i kept k = came_owed r p b w i kept k w.owed w.waiting i.owed i.answered k.came

-- the owed command was carried out, by this reply
pub carried_by : (r : Replies) (c : Waiting) (p : Player) (b : Meaning) (w : World) (owed : IsOwed r c p b w) →
    CarriesOut c owed.answered.said.before r owed.answered.said.behind owed.answered.after
carried_by r c p b w owed =
    subst (λ (x : Replies). CarriesOut c owed.answered.said.before x owed.answered.said.behind owed.answered.after) owed.is
    owed.answered.carries

still_selected : (command : Command) (r : Replies) (selected : Option Selected) →
    ((name : List ℕ) (since : Option Mark) → command ≢ commands.Select name since) → selected_after command r selected ≡ selected
still_selected (commands.Select name since) r selected n = absurd (n name since refl)
still_selected command r selected n = refl

-- whether the flags of a row are as asked
pub so_told : (action : Action) (row : Row) (so : Bool) → is_so action row.flags ≡ so → RowTold row.modseq so action (Some row)
so_told (actions.Flag target true asked) row true e = (refl, (asked_decides true asked row.flags).0 e)
so_told (actions.Flag target false asked) row true e = (refl, (asked_decides false asked row.flags).0 e)
so_told (actions.Flag target true asked) row false e =
    (refl, λ s. let t : true ≡ false = sym ((asked_decides true asked row.flags).1 s) ∙ e in absurd (cc))
so_told (actions.Flag target false asked) row false e =
    (refl, λ s. let t : true ≡ false = sym ((asked_decides false asked row.flags).1 s) ∙ e in absurd (cc))
so_told (actions.Move target to) row true e = absurd (cc)
so_told (actions.Move target to) row false e = (refl, λ s. s)
so_told (actions.Append to flags text id) row true e = absurd (cc)
so_told (actions.Append to flags text id) row false e = (refl, λ s. s)

-- where the flags are said not to be kept, and no intent is pending
refused_by : (queue : List Queued) (action : Action) (permits : Bool) (pending : Option Intent) (w : World) (name : List ℕ)
    (validity uid : ℕ) →
    IsAbout queue action name validity uid → name_of w.selected ≡ Some name → (permits ≡ false → LacksFlags w action) →
    is_barred permits action pending ≡ true → WasRefused queue w.course action
refused_by queue (actions.Flag target add asked) permits pending w name validity uid about here lacks t =
    let l : LacksFlags w (actions.Flag target add asked) = lacks (not-true permits (and_parts (not permits) (is_none pending) t).0) in
    let n : l.0 ≡ name = same_Some l.0 name (sym l.1 ∙ here) in
    (name, validity, uid, about, subst (λ (x : List ℕ). WasSelected x (TellsLack asked) w.course) n l.2)
refused_by queue (actions.Move target to) permits pending w name validity uid about here lacks t = absurd (cc)
refused_by queue (actions.Append to flags text id) permits pending w name validity uid about here lacks t = absurd about

-- where nothing covers them, there are none
none_left : (low : ℕ) (us : List ℕ) → ((u : ℕ) → Contains us u → low ≤ u → ⊥) → at_least low us ≡ []
none_left low [] f = refl
none_left low (u ∷ us) f =
    cond_both (leb low u) (u ∷ at_least low us) (at_least low us) (λ (l : List ℕ). l ≡ [])
    (λ t. absurd (f u (here u us) (leb-true low u t))) (λ _. none_left low us (λ v h. f v (there u v us h)))

-- the action ended
abbrev Ends : Finding → Type 0
Ends finding = (outcome : Outcome) × (finding ≡ findings.Ended outcome)

ends : (outcome : Outcome) → Ends (findings.Ended outcome)
ends outcome = (outcome, refl)

sent_ends : (resumed : Bool) (n : ℕ) (action : Action) (intent : Intent) (r : Replies) (c : Waiting) (selected : Option Selected)
    (b : Meaning) →
    IsNeeded (send_of n action intent) c selected b → IfRead Ends (read_sent resumed action intent r)
sent_ends resumed n (actions.Flag target add flags) (intents.Store name validity uid modseq) r c selected b s =
    store_ends Ends ends uid modseq resumed r
sent_ends resumed n (actions.Flag target add flags) (intents.Shift from validity uid to) r c selected b s = absurd s
sent_ends resumed n (actions.Flag target add flags) (intents.Put to validity uidnext) r c selected b s = absurd s
sent_ends resumed n (actions.Move target other) (intents.Store name validity uid modseq) r c selected b s = absurd s
sent_ends resumed n (actions.Move target other) (intents.Shift from validity uid to) r c selected b s =
    move_ends Ends ends uid resumed (last_copied r.untagged r.code) r.ending
sent_ends resumed n (actions.Move target other) (intents.Put to validity uidnext) r c selected b s = absurd s
sent_ends resumed n (actions.Append other flags text id) (intents.Store name validity uid modseq) r c selected b s = absurd s
sent_ends resumed n (actions.Append other flags text id) (intents.Shift from validity uid to) r c selected b s = absurd s
sent_ends resumed n (actions.Append other flags text id) (intents.Put to validity uidnext) r c selected b s = append_ends Ends ends r.code r.ending

module _ (p : Player) (b : Meaning) (w : World) (kept : KeptBook b w.course.now w.waiting) (quiet : w.waiting ≡ None)
    (known : Knows p b w) (r : Replies)
    (c : Waiting) (owed : IsOwed r c p b w) where
  abbrev said : Said
  said = owed.answered.said

  -- the player keeps this of the reply
  abbrev heard_player : Finding → Player
  heard_player finding = record p { told = finding }

  module _ (other : (name : List ℕ) (since : Option Mark) → c.command ≢ commands.Select name since) where
    selected_still : w.selected ≡ p.selected
    selected_still = owed.answered.selected ∙ still_selected c.command said.reply p.selected other

    heard_with : (finding : Finding) → IsTold finding b w.course → Rests finding p.resumed b (given w) →
        Knows (heard_player finding) b (given w)
    heard_with finding told rests =
        knows_again p (heard_player finding) b w (given w) refl (grows_given w) known.course
        (since_same w.course.now kept.well) kept.well kept.open_intent
        known.valid told known.placed
        (subst (λ (l : Option Resynced). Learning l (heard_player finding) b w.course.now) (sym (learns_none p b c owed.needed)) tt)
        (rest_now (heard_player finding) b (given w) w.waiting quiet (record { selected = selected_still; rests = rests })) known

  come_of : (m : Bool) → is_mutating c.command ≡ m → HasCome m said p.told p.resumed b w
  come_of m h = subst (λ (x : Bool). HasCome x said p.told p.resumed b w) h owed.answered.come

  -- nothing was done, and this follows for the server as it is
  unsent_with : IsQuiet said p.told p.resumed b w → (told : Finding) → Holds told b w.course.now → IsUnsent told p.resumed b (given w)
  unsent_with come told holds = record { same = come.unsent.same; none = come.unsent.none; holds = holds }

  carried : CarriesOut c said.before r said.behind owed.answered.after
  carried = carried_by r c p b w owed

  fulfils : r.ending ≡ endings.Ok → (command : Command) → c.command ≡ command →
      Fulfils command c said.before r said.behind owed.answered.after
  fulfils ok command h =
      subst (λ (x : Command). Fulfils x c said.before r said.behind owed.answered.after) h
      (subst (λ (x : Ending). Decides x c.command c said.before r said.behind owed.answered.after) ok carried)

  -- the mailbox that was selected as the command was carried out
  module _ (name : List ℕ) (validity : ℕ) (that : is_selected_at p.selected name validity ≡ true) where
    before_at : IsUnder name validity said.before
    before_at =
        let x : IsThat p.selected name validity = selected_that p.selected name validity that in
        under_that p.selected name validity said.before x (owed.answered.at x.sel x.is)

    now_at : w.selected ≡ p.selected → IsUnder name validity w.course.now
    now_at still =
        let x : IsThat p.selected name validity = selected_that p.selected name validity that in
        under_that p.selected name validity w.course.now x (known.valid x.sel (still ∙ x.is))

    of_that : c.selected ≡ name_of p.selected → c.selected ≡ Some name
    of_that s =
        let x : IsThat p.selected name validity = selected_that p.selected name validity that in
        s ∙ ap name_of x.is ∙ ap (λ (n : List ℕ). Some n) x.same_name

    box_then : c.selected ≡ name_of p.selected → (box : Mailbox) → selected_box c.selected said.before.boxes ≡ Some box →
        box_at name said.before.boxes ≡ Some box
    box_then s box e = sym (ap (λ (o : Option (List ℕ)). selected_box o said.before.boxes) (of_that s)) ∙ e

    validity_then : (box : Mailbox) → box_at name said.before.boxes ≡ Some box → box.validity ≡ validity
    validity_then box e =
        ap (λ (m : Mailbox). m.validity) (same_Some box before_at.box (sym e ∙ before_at.there)) ∙ before_at.same

  module _ (permits : Bool) (finding : Finding) (hears : Hears p b permits r finding) where
    hears_step : (q : Queued) → due_action b.queue ≡ Some q → (step : Step) → step_of p b ≡ step →
        HearsStep step p q.action b.pending permits r finding
    hears_step q e step s =
        subst (λ (x : Step). HearsStep x p q.action b.pending permits r finding) s
        (subst (λ (o : Option Queued). HearsDue p b o permits r finding) e hears)

    -- a row
    module _ (x : AsksRow p b c) (fair : PermitsTruly permits b w) (ok : r.ending ≡ endings.Ok) where
      abbrev q : Queued
      q = x.message.queued

      abbrev barred : Bool
      barred = is_barred permits q.action b.pending

      asked : Asks RowsSay (OneRow x.uid) c said.before r said.behind owed.answered.after
      asked = fulfils ok (commands.FetchRow x.uid) x.command

      at_box : box_at x.message.name said.before.boxes ≡ Some asked.box
      at_box = box_then x.message.name x.message.validity x.message.that x.selected asked.box asked.there

      row_was : (P : Action → Option Row → Type 0) → P q.action (server_row x.uid asked.box) → RowWas P b w.course
      row_was P h = record {
        queued = q;
        there = x.message.there;
        holds = (
          said.before,
          owed.answered.among,
          record {
            name = x.message.name;
            validity = x.message.validity;
            uid = x.uid;
            about = x.message.about;
            at_it = record {
              box = asked.box;
              there = at_box;
              same = validity_then x.message.name x.message.validity x.message.that asked.box at_box;
              facts = h;
            };
          },
        );
      }

      so_was : (row : Row) (so : Bool) → Some row ≡ server_row x.uid asked.box → is_so q.action row.flags ≡ so →
          RowWas (RowTold row.modseq so) b w.course
      so_was row so e h = row_was (RowTold row.modseq so)
          (subst (λ (o : Option Row). RowTold row.modseq so q.action o) e (so_told q.action row so h))

      row_other : (name : List ℕ) (since : Option Mark) → c.command ≢ commands.Select name since
      row_other name since e = let h : commands.FetchRow x.uid ≡ commands.Select name since = sym x.command ∙ e in absurd (cc)

      row_barred : barred ≡ true → OfDue (WasRefused b.queue w.course) b
      row_barred t =
          let that : IsThat p.selected x.message.name x.message.validity =
          selected_that p.selected x.message.name x.message.validity x.message.that in
          record {
            queued = q;
            there = x.message.there;
            holds = refused_by b.queue q.action permits b.pending w x.message.name x.message.validity x.uid x.message.about
                (ap name_of (selected_still row_other ∙ that.is) ∙ ap (λ (n : List ℕ). Some n) that.same_name)
                (λ f. fair f q x.message.there) t;
          }

      row_told : (o : Option Row) → o ≡ server_row x.uid asked.box → IsTold (row_finding barred q.action o) b w.course
      row_told None e = row_was NoRow (sym e)
      row_told (Some row) e =
          cond_both (barred && not (is_so q.action row.flags)) findings.Barred (findings.Row row.modseq (is_so q.action row.flags))
          (λ (t : Finding). IsTold t b w.course)
          (λ t. row_barred (and_parts barred (not (is_so q.action row.flags)) t).0)
          (λ _. so_was row (is_so q.action row.flags) e refl)

      row_rests : (o : Option Row) → IsQuiet said p.told p.resumed b w → Rests (row_finding barred q.action o) p.resumed b (given w)
      row_rests None come = unsent_with come findings.NoRow tt
      row_rests (Some row) come =
          cond_both (barred && not (is_so q.action row.flags)) findings.Barred (findings.Row row.modseq (is_so q.action row.flags))
          (λ (t : Finding). Rests t p.resumed b (given w))
          (λ _. unsent_with come findings.Barred tt) (λ _. unsent_with come (findings.Row row.modseq (is_so q.action row.flags)) tt)

      by_row : Knows (heard_player finding) b (given w)
      by_row =
          let row : Option Row = server_row x.uid asked.box in
          let read : read_row barred q.action (last_fetch x.uid r.untagged) ≡ Ok (row_finding barred q.action row) =
          row_read barred q.action x.uid asked.box r.untagged asked.says asked.tells in
          let is : row_finding barred q.action row ≡ finding =
          same_finding (row_finding barred q.action row) finding (sym read ∙ hears_step q x.message.there (steps.AskRow x.uid) x.step) in
          subst (λ (t : Finding). Knows (heard_player t) b (given w)) is
          (heard_with row_other (row_finding barred q.action row) (row_told row refl)
          (row_rests row (come_of false (ap is_mutating x.command))))

  -- of an append whose intent is pending: what is true of the server as it is
  module _ (uidnext : ℕ) (x : OfPending uidnext p b) (asks : c.selected ≡ name_of p.selected)
      (other : (name : List ℕ) (since : Option Mark) → c.command ≢ commands.Select name since)
      (come : IsQuiet said p.told p.resumed b w) where
    under : IsUnder x.to x.validity w.course.now
    under = now_at x.to x.validity x.that (selected_still other)

    under_then : IsUnder x.to x.validity said.before
    under_then = before_at x.to x.validity x.that

    well_then : IsWellFormedBox under_then.box
    well_then = (known.since said.before owed.answered.among).well.each x.to under_then.box under_then.there

    answers : r.ending ≡ endings.Ok → (command : Command) → c.command ≡ command →
        probes.IsAnswered command x.to under_then.box c said.before r said.behind owed.answered.after
    answers ok command is = record {
      is = is;
      selected = of_that x.to x.validity x.that asks;
      there = under_then.there;
      ok = ok;
      carried = carried;
    }

    abbrev mine : List Deed
    mine = ours (due_id b) w.course.now.history

    -- the facts of the intent now
    put_now : PutFacts x.id uidnext x.validity mine under.box
    put_now =
        let o : IsOpen x.queued.action mine (intents.Put x.to x.validity uidnext) w.course.now.boxes =
        kept.open_intent (intents.Put x.to x.validity uidnext) x.pending x.queued x.there in
        let is : o.box ≡ under.box = same_Some o.box under.box (sym o.there ∙ under.there) in
        subst (λ (a : Action). PutFacts (append_id a) uidnext x.validity mine under.box) x.action
        (subst (λ (m : Mailbox). PutFacts (append_id x.queued.action) uidnext x.validity mine m) is
        (o.facts (ap (λ (m : Mailbox). m.validity) is ∙ under.same)))

    -- the messages with the Message-ID are those of then
    marks_now : marked x.id under.box.messages ≡ marked x.id under_then.box.messages
    marks_now =
        come.stays.spares x.queued x.to x.flags x.text x.id under_then.box under.box x.there x.action under_then.there under.there
        (under.same ∙ sym under_then.same)

    of_put : (P : List ℕ → List ℕ → ℕ → ℕ → Type 0) → P x.to x.id x.validity uidnext → OfPut P b
    of_put P h = record {
      append = record {
        queued = x.queued;
        there = x.there;
        to = x.to;
        flags = x.flags;
        text = x.text;
        id = x.id;
        action = x.action;
        holds = tt;
      };
      validity = x.validity;
      uidnext = uidnext;
      pending = x.pending;
      holds = h;
    }

    none_now : at_least uidnext (marked x.id under.box.messages) ≡ [] → mine ≡ []
    none_now n = put_again x.id uidnext x.validity mine under.box put_now n

    -- the search
    found_holds : (set : List UidRange) → Covered uidnext x.id set under.box → Holds (found_uids set) b w.course.now
    found_holds [] covered = none_now (none_left uidnext (marked x.id under.box.messages) (λ u h l. covered.each u h l))
    found_holds (range ∷ set) covered =
        of_put (λ to id validity low. InBox (Covered low id (range ∷ set)) to validity w.course.now.boxes)
        (now_in (record { box = under.box; there = under.there; same = under.same; facts = covered }))

    found_told : (set : List UidRange) → IsTold (found_uids set) b w.course
    found_told [] = tt
    found_told (range ∷ set) = tt

    found_rests : (set : List UidRange) → Holds (found_uids set) b w.course.now → Rests (found_uids set) p.resumed b (given w)
    found_rests [] h = unsent_with come (findings.Probed verdicts.NotThere) h
    found_rests (range ∷ set) h = unsent_with come (findings.Candidates (range ∷ set)) h

    found_knows : SearchCovers → r.ending ≡ endings.Ok → c.command ≡ question_of uidnext x.id → (finding : Finding) →
        HearsFound uidnext r finding →
        Knows (heard_player finding) b (given w)
    found_knows covers ok is finding f =
        let then : Covers uidnext x.id under_then.box f.uids =
        covers uidnext x.id x.to under_then.box c said.before said.behind r owed.answered.after f.uids well_then
        (answers ok (question_of uidnext x.id) is) f.found in
        let covered : Covered uidnext x.id f.uids under.box = record {
          each = λ u h l. then u (subst (λ (us : List ℕ). Contains us u) marks_now h) l;
          least = λ u m. ((f.found u).0 m).1;
        } in
        subst (λ (t : Finding). Knows (heard_player t) b (given w)) (sym f.is)
        (heard_with other (found_uids f.uids) (found_told f.uids) (found_rests f.uids (found_holds f.uids covered)))

    -- the candidates cover the messages of then
    covered_then : (uids : List UidRange) → Holds (findings.Candidates uids) b w.course.now → Covered uidnext x.id uids under_then.box
    covered_then uids o =
        let q_is : o.append.queued ≡ x.queued = same_Some o.append.queued x.queued (sym o.append.there ∙ x.there) in
        let is : actions.Append o.append.to o.append.flags o.append.text o.append.id ≡ actions.Append x.to x.flags x.text x.id =
        sym o.append.action ∙ ap (λ (y : Queued). y.action) q_is ∙ x.action in
        let p_is : intents.Put o.append.to o.validity o.uidnext ≡ intents.Put x.to x.validity uidnext =
        same_Some (intents.Put o.append.to o.validity o.uidnext) (intents.Put x.to x.validity uidnext) (sym o.pending ∙ x.pending) in
        let to_is : o.append.to ≡ x.to = cc in
        let id_is : o.append.id ≡ x.id = cc in
        let low_is : o.uidnext ≡ uidnext = cc in
        let v_is : o.validity ≡ x.validity = cc in
        let box_is : o.holds.box ≡ under.box =
        same_Some o.holds.box under.box (sym o.holds.there ∙ ap (λ (n : List ℕ). box_at n w.course.now.boxes) to_is ∙ under.there) in
        let facts : Covered uidnext x.id uids under.box =
        subst (λ (k : ℕ). Covered k x.id uids under.box) low_is
        (subst (λ (k : List ℕ). Covered o.uidnext k uids under.box) id_is
        (subst (λ (m : Mailbox). Covered o.uidnext o.append.id uids m) box_is
        (o.holds.facts (ap (λ (m : Mailbox). m.validity) box_is ∙ under.same ∙ sym v_is)))) in
        record { each = λ u h l. facts.each u (subst (λ (us : List ℕ). Contains us u) (sym marks_now) h) l; least = facts.least }

    -- the verdict
    counted_knows : (verdict : Verdict) → Counts verdict (at_least uidnext (marked x.id under_then.box.messages)) →
        Knows (heard_player (findings.Probed verdict)) b (given w)
    counted_knows verdicts.NotThere n =
        heard_with other (findings.Probed verdicts.NotThere) tt
        (unsent_with come (findings.Probed verdicts.NotThere) (none_now (ap (at_least uidnext) marks_now ∙ n)))
    counted_knows (verdicts.There uid) n =
        heard_with other (findings.Probed (verdicts.There uid)) tt
        (unsent_with come (findings.Probed (verdicts.There uid))
        (of_put (λ to id validity low. Fits (outcomes.Done (Some (record { validity = validity; uid = uid }))) mine)
        (put_found x.id uidnext x.validity uid mine under.box put_now (ap (at_least uidnext) marks_now ∙ n))))
    counted_knows (verdicts.Several first second) n =
        heard_with other (findings.Probed (verdicts.Several first second))
        (of_put (λ to id validity low. AtMoment (λ s. InBoxNow (AreTwo first second low id) to validity s.boxes) w.course) (
          said.before,
          owed.answered.among,
          record {
            box = under_then.box;
            there = under_then.there;
            same = under_then.same;
            facts = record { apart = n.apart; first = n.first; second = n.second };
          },
        ))
        (unsent_with come (findings.Probed (verdicts.Several first second)) tt)

    ids_know : VerdictCounts → r.ending ≡ endings.Ok → (uids : List UidRange) → p.told ≡ findings.Candidates uids →
        c.command ≡ commands.FetchIds uids →
        (finding : Finding) → HearsIds uids x.id r finding → Knows (heard_player finding) b (given w)
    ids_know counts ok uids told is finding f =
        let then : Covered uidnext x.id uids under_then.box =
        covered_then uids (subst (λ (t : Finding). Holds t b w.course.now) told come.unsent.holds) in
        subst (λ (t : Finding). Knows (heard_player t) b (given w)) (sym f.is)
        (counted_knows f.verdict
        (counts uidnext x.id x.to under_then.box c said.before said.behind r owed.answered.after uids f.verdict well_then
        (answers ok (commands.FetchIds uids) is) then.each then.least f.judged))

  -- how the command of the action ended
  module _ (permits : Bool) (finding : Finding) (hears : Hears p b permits r finding) (x : SendsIt p b w c) where
    sent_other : (name : List ℕ) (since : Option Mark) → c.command ≢ commands.Select name since
    sent_other name since e = let h : true ≡ false = sym x.mutating ∙ ap is_mutating e in absurd (cc)

    sent_read : read_sent p.resumed x.sends.queued.action x.sends.intent r ≡ Ok finding
    sent_read =
        subst (λ (o : Option Intent). read_meant p.resumed x.sends.queued.action o r ≡ Ok finding) x.sends.pending
        (hears_step permits finding hears x.sends.queued x.sends.there steps.Send x.step)

    sent_knows : (outcome : Outcome) → finding ≡ findings.Ended outcome → Knows (heard_player finding) b (given w)
    sent_knows outcome is =
        let sent : IsSent b said w = come_of true x.mutating in
        subst (λ (t : Finding). Knows (heard_player t) b (given w)) (sym is)
        (heard_with sent_other (findings.Ended outcome) tt (record {
          said = said;
          sent = sent_grows b said w (given w) (grows_given w) refl sent;
          queued = x.sends.queued;
          there = x.sends.there;
          intent = x.sends.intent;
          pending = x.sends.pending;
          read = ap (read_sent p.resumed x.sends.queued.action x.sends.intent) owed.is ∙ sent_read ∙ ap (λ (f : Finding). Ok f) is;
          seen = x.sends.seen;
        }))

    by_send : Knows (heard_player finding) b (given w)
    by_send =
        let so : Ends finding =
        if_read Ends (read_sent p.resumed x.sends.queued.action x.sends.intent r) finding sent_read
        (sent_ends p.resumed (due_id b) x.sends.queued.action x.sends.intent r c p.selected b x.command) in
        sent_knows so.0 so.1

  module _ (covers : SearchCovers) (counts : VerdictCounts) (permits : Bool) (finding : Finding) (hears : Hears p b permits r finding)
      (fair : PermitsTruly permits b w)
      (accepted : is_mutating c.command ≡ false → r.ending ≡ endings.Ok)
      (other : (name : List ℕ) (since : Option Mark) → c.command ≢ commands.Select name since) where
    by_search : Searches p b c → Knows (heard_player finding) b (given w)
    by_search x =
        let calm : is_mutating c.command ≡ false = ap is_mutating x.command in
        found_knows x.uidnext x.append x.selected other (come_of false calm) covers (accepted calm) x.command finding
        (hears_step permits finding hears x.append.queued x.append.there (steps.Search x.uidnext) x.step)

    by_ids : AsksIds p b c → Knows (heard_player finding) b (given w)
    by_ids x =
        let calm : is_mutating c.command ≡ false = ap is_mutating x.command in
        let heard : HearsIdsOf p.told x.found.append.queued.action r finding =
        hears_step permits finding hears x.found.append.queued x.found.append.there steps.AskIds x.step in
        ids_know x.found.uidnext x.found.append x.selected other (come_of false calm) counts
        (accepted calm) x.found.uids x.found.told x.command finding
        (subst (λ (a : Action). HearsIdsOf (findings.Candidates x.found.uids) a r finding) x.found.append.action
        (subst (λ (t : Finding). HearsIdsOf t x.found.append.queued.action r finding) x.found.told heard))

    pub by_purpose : Purpose p b w c → Knows (heard_player finding) b (given w)
    by_purpose (a_row x) = by_row permits finding hears x fair (accepted (ap is_mutating x.command))
    by_purpose (an_effect x) = by_send permits finding hears x
    by_purpose (a_box x) = absurd (other x.name x.selects.since x.selects.is)
    by_purpose (a_search x) = by_search x
    by_purpose (the_ids x) = by_ids x

pub heard_knows : SearchCovers → VerdictCounts → (p r : Player) (b : Meaning) (w : World) (permits : Bool) (replies : Replies) →
    KeptBook b w.course.now w.waiting → IsReply replies w → PermitsTruly permits b w → IsHeard p b permits replies r → Knows p b w →
    Knows r b (given w)
heard_knows covers counts p r b w permits replies kept i fair heard known =
    let owed : IsOwed replies i.command p b w = owed_of replies p b w i kept known in
    let purpose : Purpose p b w i.command = purpose_of p b w i.command kept.sound known owed.needed in
    subst (λ (x : Player). Knows x b (given w)) (sym heard.is)
    (by_purpose p b w kept i.answered known replies i.command owed covers counts permits heard.finding heard.hears fair i.accepted
    i.no_select purpose)
