-- What the player knows is kept as the server goes on, and as commands are sent and carried out.
use Rattle.action_queue.specs.Queues.{tries_due}
use Rattle.action_queue.specs.Book.{Meaning}
use Rattle.action_queue.specs.Targets.{resolved}
use Rattle.action_queue.specs.declared.action.Action.{Action}
use Rattle.action_queue.specs.declared.found.Found.{Found}
use Rattle.action_queue.specs.declared.intent.Intent.{Intent}
use Rattle.action_queue.specs.declared.outcome.Outcome.{Outcome}
use Rattle.action_queue.specs.declared.queued.Queued.{Queued}
use Rattle.action_queue.specs.declared.target.Target.{Target}
use Rattle.imap_model.proofs.Effect.{carried_effect}
use Rattle.imap_model.specs.CarriedOut.{CarriesOut}
use Rattle.imap_model.specs.Carrying.{Accepted, Waiting}
use Rattle.imap_model.specs.Changes.{Batch}
use Rattle.imap_model.specs.Lookups.{box_at}
use Rattle.imap_model.specs.Mutating.{is_mutating}
use Rattle.imap_model.specs.WellFormed.{IsWellFormed}
use Rattle.imap_model.specs.declared.command.Command.{Command}
use Rattle.imap_model.specs.declared.ending.Ending.{Ending}
use Rattle.imap_model.specs.declared.mark.Mark.{Mark}
use Rattle.imap_model.specs.declared.replies.Replies.{Replies}
use Rattle.imap_model.specs.declared.server.Mailbox.{Mailbox}
use Rattle.imap_model.specs.declared.server.Server.{Server}
use Rattle.book_laws.proofs.Carrying.{harmless}
use Rattle.book_laws.proofs.Foreign.{others_keep}
use Rattle.book_laws.proofs.Facts.{under_kept}
use Rattle.playback.proofs.Moving.{carried_validity}
use Rattle.playback.proofs.Moments.{course_carried, course_moved, each_moment, grows_asks, grows_carried, grows_moved, grows_says}
use Rattle.playback.proofs.Moments.{intent_grows, learns_stay, rests_grows, sent_grows, since_carries, since_foreign, since_grows}
use Rattle.playback.proofs.Moments.{since_same, stays_is, stays_others, stays_same, stays_then, told_grows, under_stays, unsent_grows}
use Rattle.playback.specs.Course.{IsCourse, Said}
use Rattle.book_laws.specs.Kept.{KeptBook}
use Rattle.playback.specs.Knows.{Came, FetchesRows, HasCome, HasEnded, IsFetched, IsNeeded, IsResting, IsTold, IsUnsent, ReplyIsOwed}
use Rattle.playback.specs.Knows.{IsWaiting, Knows, Learning, MayAskRows, Rests, Stays, with_rows}
use Rattle.playback.proofs.Trying.{end_any}
use Rattle.playback.specs.Needs.{IsPlaced, again, due_id, need_end, need_for, need_learn, need_of}
use Rattle.book_laws.specs.Of.{IsOf}
use Rattle.book_laws.specs.Open.{Open}
use Rattle.book_laws.specs.Polite.{KeepsBox, KeepsWaiting, Spares}
use Rattle.playback.specs.Replying.{read_sent}
use Rattle.playback.specs.Steps.{append_meant, flag_meant, move_meant, step_action, step_append, step_due, step_flag_found, step_learn}
use Rattle.playback.specs.Steps.{step_move_found, step_of}
use Rattle.playback.specs.Worlds.{IsAt, KeepsCourse, LeadsTo, World, answered_world, asks_rows, moved, name_of, says, selected_after, selected_by}
use Rattle.playback.specs.Worlds.{selected_on}
use Rattle.playback.specs.declared.finding.Finding.{Finding}
use Rattle.playback.specs.declared.finding.Resynced.{Resynced}
use Rattle.playback.specs.declared.finding.Selected.{Selected}
use Rattle.playback.specs.declared.need.Need.{Need}
use Rattle.playback.specs.declared.player.Player.{Player}
use Rattle.playback.specs.declared.step.Step.{Step}
use Rattle.qresync_core.proofs.Replying.{codes_true, select_box, selecting}
use Rattle.qresync_core.specs.Laws.{codes_of_box}
use Rattle.qresync_core.specs.ToldCodes.{told_codes}
use Rattle.std.proofs.Common.{Bool, List, None, Ok, Option, Some, ap, false, inl, inr, refl, subst, sym, true, ℕ, ⊎_elim, ◌∙◌, ◌∷◌, ◌≡◌}
use Rattle.std.proofs.lemmas.Option.{same_Some}
use Rattle.action_queue.specs.declared.action.Action.TheVariants as actions
use Rattle.imap_model.specs.declared.command.Command.TheVariants as commands
use Rattle.imap_model.specs.declared.ending.Ending.TheVariants as endings
use Rattle.action_queue.specs.declared.event.Event.TheVariants as events
use Rattle.playback.specs.declared.finding.Finding.TheVariants as findings
use Rattle.action_queue.specs.declared.found.Found.TheVariants as found
use Rattle.action_queue.specs.declared.intent.Intent.TheVariants as intents
use Rattle.action_queue.specs.declared.outcome.Kind.TheVariants as kinds
use Rattle.playback.specs.declared.need.Need.TheVariants as needs
use Rattle.action_queue.specs.declared.outcome.Outcome.TheVariants as outcomes
use Rattle.playback.specs.declared.step.Step.TheVariants as steps

-- what doesn't depend on how far the conversation is, also of a player that keeps something else
pub knows_again : (p r : Player) (b : Meaning) (w v : World) → r.resumed ≡ p.resumed → KeepsCourse w v → IsCourse v.course →
    LeadsTo w.course.now v.course.now → IsWellFormed v.course.now.boxes → Open b v.course.now →
    ((selected : Selected) → v.selected ≡ Some selected → IsAt selected v.course.now) → IsTold r.told b v.course →
    (r.resumed ≡ false → (intent : Intent) → b.pending ≡ Some intent → IsPlaced intent r) →
    Learning r.learns r b v.course.now → Came v.owed v.waiting r b v → Knows p b w → Knows r b v
knows_again p r b w v same g course step well opened valid told placed learns came k = record {
  course = course;
  since = since_grows w v g step well k.since;
  valid = valid;
  fresh = λ n. same ∙ k.fresh n;
  meant = λ t intent e. intent_grows intent b w v g (k.meant (sym same ∙ t) intent e);
  placed = placed;
  resumed = λ t. each_moment (λ (s : Server). Open b s) w v g opened (k.resumed (sym same ∙ t));
  told = told;
  learns = learns;
  came = came;
}

pub knows_from : (p : Player) (b : Meaning) (w v : World) → KeepsCourse w v → IsCourse v.course → LeadsTo w.course.now v.course.now →
    IsWellFormed v.course.now.boxes → Open b v.course.now →
    ((selected : Selected) → v.selected ≡ Some selected → IsAt selected v.course.now) →
    Came v.owed v.waiting p b v → Knows p b w → Knows p b v
knows_from p b w v g course step well opened valid came k =
    knows_again p p b w v refl g course step well opened valid (told_grows p.told b w v g k.told) k.placed
    (learns_stay p.learns p b w.course.now v.course.now step k.learns) came k

-- nothing is owed, so nothing waits
pub record IsIdle (p : Player) (b : Meaning) (w : World) : Type 0 where
  pub waiting : w.waiting ≡ None
  pub resting : IsResting p b w

came_idle : (owed waiting : Option Waiting) (p : Player) (b : Meaning) (w : World) → w.waiting ≡ waiting → owed ≡ None →
    Came owed waiting p b w →
    IsIdle p b w
came_idle None None p b w = λ e o c. record { waiting = e; resting = c }
came_idle None (Some x) p b w = λ e o c. absurd c
came_idle (Some y) None p b w = λ e o c. absurd (cc)
came_idle (Some y) (Some x) p b w = λ e o c. absurd (cc)

pub idle : (p : Player) (b : Meaning) (w : World) → w.owed ≡ None → Knows p b w → IsIdle p b w
idle p b w o k = came_idle w.owed w.waiting p b w refl o k.came

pub rest_now : (p : Player) (b : Meaning) (w : World) (waiting : Option Waiting) → waiting ≡ None → IsResting p b w →
    Came None waiting p b w
rest_now p b w None = λ e r. r
rest_now p b w (Some x) = λ e r. absurd (cc)

-- as a moment is added at which nothing of the action happens, what is owed stays so
module _ (p : Player) (b : Meaning) (w v : World) (g : KeepsCourse w v) (st : Stays b w.course.now v.course.now) where
  come_on : (m : Bool) (e : Said) → IsWellFormed e.before.boxes → HasCome m e p.told p.resumed b w → HasCome m e p.told p.resumed b v
  come_on true e well h = sent_grows b e w v g st.same h
  come_on false e well h = record {
    unsent = unsent_grows p.told p.resumed b w v g st h.unsent;
    stays = stays_then b e.before w.course.now v.course.now well h.stays st;
  }

  module _ (known : Knows p b w) (said : v.course.said ≡ w.course.said) (selected : v.selected ≡ w.selected) where
    fetched_on : (e rows : Said) → IsFetched e rows w → IsFetched e rows v
    fetched_on e rows f = record {
      asks = f.asks;
      selected = f.selected ∙ ap name_of (sym selected);
      among = g.among rows.before f.among;
      after = f.after;
      carries = f.carries;
      evolves = f.evolves;
    }

    answered_on : (c : Waiting) → ReplyIsOwed c p b w → ReplyIsOwed c p b v
    answered_on c a = record {
      said = a.said;
      rows = a.rows;
      rest = a.rest;
      last = said ∙ a.last;
      fetched = λ e h. fetched_on a.said e (a.fetched e h);
      command = a.command;
      among = g.among a.said.before a.among;
      after = a.after;
      carries = a.carries;
      selected = selected ∙ a.selected;
      at = a.at;
      fresh = a.fresh;
      come = come_on (is_mutating c.command) a.said (known.since a.said.before a.among).well a.come;
    }

    fetches_on : (c waits : Waiting) → FetchesRows c waits p b w → FetchesRows c waits p b v
    unfolding answered_on
    fetches_on c waits f = record {
      asks = f.asks;
      selected = f.selected ∙ ap name_of (sym selected);
      answered = answered_on c f.answered;
      none = f.none;
      quiet = f.quiet;
    }

    waiting_on : (c waits : Waiting) → IsWaiting c waits p b w → IsWaiting c waits p b v
    waiting_on c waits i = record {
      is = i.is;
      selected = selected ∙ i.selected;
      unsent = unsent_grows p.told p.resumed b w v g st i.unsent;
    }

    came_on : (owed waiting : Option Waiting) → Came owed waiting p b w → Came owed waiting p b v
    came_on None None c = record { selected = selected ∙ c.selected; rests = rests_grows p.told p.resumed b w v g st c.rests }
    came_on None (Some x) c = c
    came_on (Some o) (Some x) c = (
      c.0,
      ⊎_elim (λ (i : IsWaiting o x p b w). inl (waiting_on o x i)) (λ (f : FetchesRows o x p b w). inr (fetches_on o x f)) c.1,
    )
    came_on (Some o) None c = (c.0, answered_on o c.1)

-- others change something
pub others_know : (p : Player) (b : Meaning) (w : World) (t : Server) → KeptBook b w.course.now w.waiting →
    Batch w.course.now.boxes w.course.now t →
    Spares b w.course.now.boxes t.boxes → KeepsBox (name_of w.selected) w.course.now.boxes t.boxes →
    KeepsWaiting w.waiting w.course.now.boxes t.boxes → Knows p b w → Knows p b (moved t w)
others_know p b w t kept foreign spares stays settled k =
    let later : KeptBook b t w.waiting = others_keep b w.course.now t w.waiting kept foreign spares settled in
    let step : LeadsTo w.course.now t = since_foreign w.course.now t kept.well foreign in
    let st : Stays b w.course.now t = stays_others b w.course.now t kept.well foreign spares in
    knows_from p b w (moved t w) (grows_moved t w) (course_moved t w.course k.course) step later.well later.open_intent
    (λ selected e. under_kept selected.name selected.validity w.course.now.boxes t.boxes
    (subst (λ (o : Option Selected). KeepsBox (name_of o) w.course.now.boxes t.boxes) e stays) (k.valid selected e))
    (came_on p b w (moved t w) (grows_moved t w) st k refl refl w.owed w.waiting k.came) k

-- behind an ended action stands its outcome
abbrev pub Settles : Step → Type 0
Settles step = (outcome : Outcome) × (step ≡ steps.Settle outcome)

flag_settles : (p : Player) (intent : Intent) (place : Found) (target : Target) (add : Bool) (flags : List (List ℕ)) (outcome : Outcome)
    (resumed : Bool) (r : Replies) → p.told ≡ findings.Ended outcome →
    read_sent resumed (actions.Flag target add flags) intent r ≡ Ok (findings.Ended outcome) →
    Settles (step_flag_found p (Some intent) place)
flag_settles p (intents.Store name validity uid modseq) (found.Real box under number) target add flags outcome resumed r = λ e read.
    (outcome, ap (λ (told : Finding). flag_meant p modseq (record { name = box; validity = under; uid = number }) told) e)
flag_settles p (intents.Store name validity uid modseq) (found.NotYet by) target add flags outcome resumed r = λ e read.
    (outcomes.Conflict (kinds.TargetUnknown by), refl)
flag_settles p (intents.Store name validity uid modseq) (found.Never by) target add flags outcome resumed r = λ e read.
    (outcomes.Conflict (kinds.TargetUnknown by), refl)
flag_settles p (intents.Shift from validity uid to) place target add flags outcome resumed r = λ e read. absurd (cc)
flag_settles p (intents.Put to validity uidnext) place target add flags outcome resumed r = λ e read. absurd (cc)

move_settles : (p : Player) (intent : Intent) (place : Found) (target : Target) (to : List ℕ) (outcome : Outcome) (resumed : Bool)
    (r : Replies) →
    p.told ≡ findings.Ended outcome → read_sent resumed (actions.Move target to) intent r ≡ Ok (findings.Ended outcome) →
    Settles (step_move_found p (Some intent) to place)
move_settles p (intents.Shift from validity uid other) (found.Real box under number) target to outcome resumed r = λ e read.
    (outcome, ap (λ (told : Finding). move_meant p (record { name = box; validity = under; uid = number }) told) e)
move_settles p (intents.Shift from validity uid other) (found.NotYet by) target to outcome resumed r = λ e read.
    (outcomes.Conflict (kinds.TargetUnknown by), refl)
move_settles p (intents.Shift from validity uid other) (found.Never by) target to outcome resumed r = λ e read.
    (outcomes.Conflict (kinds.TargetUnknown by), refl)
move_settles p (intents.Store name validity uid modseq) place target to outcome resumed r = λ e read. absurd (cc)
move_settles p (intents.Put other validity uidnext) place target to outcome resumed r = λ e read. absurd (cc)

append_settles : (p : Player) (intent : Intent) (to : List ℕ) (flags : List (List ℕ)) (text id : List ℕ) (outcome : Outcome)
    (resumed : Bool) (r : Replies) →
    p.told ≡ findings.Ended outcome → read_sent resumed (actions.Append to flags text id) intent r ≡ Ok (findings.Ended outcome) →
    Settles (step_append p (Some intent) to)
append_settles p (intents.Put other validity uidnext) to flags text id outcome resumed r = λ e read.
    (outcome, ap (λ (told : Finding). append_meant p to validity uidnext told) e)
append_settles p (intents.Store name validity uid modseq) to flags text id outcome resumed r = λ e read. absurd (cc)
append_settles p (intents.Shift from validity uid other) to flags text id outcome resumed r = λ e read. absurd (cc)

action_settles : (p : Player) (b : Meaning) (action : Action) (intent : Intent) (outcome : Outcome) (resumed : Bool) (r : Replies) →
    b.pending ≡ Some intent →
    p.told ≡ findings.Ended outcome → read_sent resumed action intent r ≡ Ok (findings.Ended outcome) → Settles (step_action p b action)
action_settles p b (actions.Flag target add flags) intent outcome resumed r pending e read =
    subst (λ (o : Option Intent). Settles (step_flag_found p o (resolved b.queue target))) (sym pending)
    (flag_settles p intent (resolved b.queue target) target add flags outcome resumed r e read)
action_settles p b (actions.Move target to) intent outcome resumed r pending e read =
    subst (λ (o : Option Intent). Settles (step_move_found p o to (resolved b.queue target))) (sym pending)
    (move_settles p intent (resolved b.queue target) target to outcome resumed r e read)
action_settles p b (actions.Append to flags text id) intent outcome resumed r pending e read =
    subst (λ (o : Option Intent). Settles (step_append p o to)) (sym pending)
    (append_settles p intent to flags text id outcome resumed r e read)

pub ended_settles : (p : Player) (b : Meaning) (w : World) (outcome : Outcome) → p.learns ≡ None → p.told ≡ findings.Ended outcome →
    HasEnded outcome p.resumed b w → Settles (step_of p b)
ended_settles p b w outcome l e h =
    subst (λ (learns : Option Resynced). Settles (step_learn p b learns)) (sym l)
    (subst (λ (q : Option Queued). Settles (step_due p b q)) (sym h.there)
    (action_settles p b h.queued.action h.intent outcome p.resumed h.said.reply h.pending e h.read))

pub settles_need : (p : Player) (b : Meaning) → (s : Settles (step_of p b)) → need_of p b ≡ need_end (due_id b) s.0 (again (tries_due b.queue) s.0)
settles_need p b s = ap (λ (step : Step). need_for step p b) s.1

-- what was told of a mailbox is recorded first
pub learns_need : (p : Player) (b : Meaning) (told : Resynced) → p.learns ≡ Some told →
    need_of p b ≡ needs.Commit (events.Learn told.name told.delta)
learns_need p b told e = ap (λ (learns : Option Resynced). need_for (step_learn p b learns) p b) e ∙ ap need_learn e

-- with an ended command nothing is asked or sent
pub ended_asks : (p : Player) (b : Meaning) (w : World) (c : Waiting) (outcome : Outcome) (learns : Option Resynced) → p.learns ≡ learns →
    p.told ≡ findings.Ended outcome → IsNeeded (need_of p b) c p.selected b → HasEnded outcome p.resumed b w → ⊥
ended_asks p b w c outcome None l e n h =
    let s : Settles (step_of p b) = ended_settles p b w outcome l e h in
    end_any (λ (need : Need). IsNeeded need c p.selected b → ⊥) (λ k o x. x) (λ k t x. x) (due_id b) s.0 (again (tries_due b.queue) s.0)
    (subst (λ (need : Need). IsNeeded need c p.selected b) (settles_need p b s) n)
ended_asks p b w c outcome (Some told) l e n h = subst (λ (need : Need). IsNeeded need c p.selected b) (learns_need p b told l) n

pub rests_unsent : (p : Player) (b : Meaning) (w : World) (c : Waiting) (told : Finding) → p.told ≡ told →
    IsNeeded (need_of p b) c p.selected b →
    Rests told p.resumed b w → IsUnsent told p.resumed b w
rests_unsent p b w c findings.Nothing e n r = r
rests_unsent p b w c findings.NoRow e n r = r
rests_unsent p b w c (findings.Row modseq so) e n r = r
rests_unsent p b w c findings.Barred e n r = r
rests_unsent p b w c (findings.Ended outcome) e n r = absurd (ended_asks p b w c outcome p.learns refl e n r)
rests_unsent p b w c (findings.Next validity uidnext) e n r = r
rests_unsent p b w c (findings.Candidates uids) e n r = r
rests_unsent p b w c (findings.Probed verdict) e n r = r

-- a command that is needed arrives
pub says_know : (p : Player) (b : Meaning) (w : World) (c : Waiting) → KeptBook b w.course.now w.waiting → w.owed ≡ None →
    IsNeeded (need_of p b) c p.selected b → Knows p b w → Knows p b (says c w)
says_know p b w c kept o n k =
    let i : IsIdle p b w = idle p b w o k in
    let u : IsUnsent p.told p.resumed b w = rests_unsent p b w c p.told refl n i.resting.rests in
    knows_from p b w (says c w) (grows_says c w) k.course (since_same w.course.now kept.well) kept.well kept.open_intent k.valid (
      n,
      inl (record {
        is = refl;
        selected = i.resting.selected;
        unsent = unsent_grows p.told p.resumed b w (says c w) (grows_says c w) (stays_same b w.course.now) u;
      }),
    ) k

-- behind a SELECT the rows of all messages are asked for
module _ (p : Player) (b : Meaning) (w : World) (c : Waiting) (may : MayAskRows c p b w) (known : Knows p b w) where
  -- they weren't asked for yet
  none_asked : (a : ReplyIsOwed may.select p b w) → (rows : Option Said) → a.rows ≡ rows → a.rows ≡ None
  none_asked a None e = e
  none_asked a (Some x) e =
      let f : IsFetched a.said x w = a.fetched x e in
      let lists : x ∷ a.said ∷ a.rest ≡ may.said ∷ may.rest =
      sym (a.last ∙ ap (λ (o : Option Said). with_rows o (a.said ∷ a.rest)) e) ∙ may.last in
      let same : x ≡ may.said = cc in
      let select : commands.FetchAll ≡ commands.Select may.name may.selects.since =
      sym f.asks ∙ ap (λ (s : Said). s.command.command) same ∙ ap (λ (x : Waiting). x.command) may.answers ∙ may.selects.is in
      absurd (cc)

  asked : ReplyIsOwed may.select p b w → FetchesRows may.select c p b (asks_rows c w)
  unfolding answered_on
  asked a = record {
    asks = may.asks;
    selected = may.selected;
    answered = answered_on p b w (asks_rows c w) (grows_asks c w) (stays_same b w.course.now) known refl refl may.select a;
    none = none_asked a a.rows refl;
    quiet = ap is_mutating may.selects.is;
  }

  came_asks : (owed waiting : Option Waiting) → owed ≡ Some may.select → waiting ≡ None → Came owed waiting p b w →
      Came owed (Some c) p b (asks_rows c w)
  came_asks None None = λ o e x. absurd (cc)
  came_asks None (Some y) = λ o e x. absurd x
  came_asks (Some y) (Some z) = λ o e x. absurd (cc)
  came_asks (Some y) None = λ o e x.
      let is : y ≡ may.select = same_Some y may.select o in
      let f : FetchesRows may.select c p b (asks_rows c w) = asked (subst (λ (z : Waiting). ReplyIsOwed z p b w) is x.1) in
      (x.0, inr (subst (λ (z : Waiting). FetchesRows z c p b (asks_rows c w)) (sym is) f))

pub asks_know : (p : Player) (b : Meaning) (w : World) (c : Waiting) → MayAskRows c p b w → Knows p b w → Knows p b (asks_rows c w)
asks_know p b w c may k = record {
  course = k.course;
  since = k.since;
  valid = k.valid;
  fresh = k.fresh;
  meant = k.meant;
  placed = k.placed;
  resumed = k.resumed;
  told = k.told;
  learns = k.learns;
  came = came_asks p b w c may k w.owed w.waiting may.owed may.none_waits k.came;
}

-- what is selected behind a SELECT has the UIDVALIDITY that was told
module _ (name : List ℕ) (since : Option Mark) (c : Waiting) (r : Replies) (s t : Server) (after : Option (List ℕ))
    (is : c.command ≡ commands.Select name since)
    (carries : CarriesOut c s r t after) (step : LeadsTo s t) where
  valid_codes : r.ending ≡ endings.Ok → (box : Mailbox) → box_at name s.boxes ≡ Some box → (selected : Selected) →
      selected_by name (told_codes r) ≡ Some selected → IsAt selected t
  valid_codes ok box there selected h =
      let codes : told_codes r ≡ Ok (codes_of_box box) =
      codes_true since box r (selecting name since box r (record {
        waiting = c;
        command = is;
        answers = record { server = s; later = t; after = after; carried = carries; ok = ok; there = there };
      })) in
      let so : Some (record { name = name; validity = box.validity }) ≡ Some selected = sym (ap (selected_by name) codes) ∙ h in
      subst (λ (x : Selected). IsAt x t) (same_Some (record { name = name; validity = box.validity }) selected so)
      (under_stays name box.validity s t step (carried_validity c s t name (carried_effect c s r t after carries)) (record { box = box; there = there; same = refl; facts = tt }))

  valid_selected : (ending : Ending) → r.ending ≡ ending → (selected : Selected) → selected_on name r ending ≡ Some selected →
      IsAt selected t
  valid_selected endings.Ok = λ ok selected h.
      let there : (box : Mailbox) × (box_at name s.boxes ≡ Some box) = select_box name since c s t r after is ok carries in
      valid_codes ok there.0 there.1 selected h
  valid_selected endings.No = λ e selected h. absurd (cc)
  valid_selected endings.Bad = λ e selected h. absurd (cc)

-- what waits is carried out
module _ (p : Player) (b : Meaning) (w : World) (c : Waiting) (r : Replies) (t : Server) (after : Option (List ℕ))
    (carries : CarriesOut c w.course.now r t after) (kept : KeptBook b w.course.now (Some c)) (known : Knows p b w) where
  abbrev entry : Said
  entry = record { command = c; before = w.course.now; behind = t; reply = r }

  step : LeadsTo w.course.now t
  step = since_carries c r w.course.now t after kept.well carries

  stays_quiet : is_mutating c.command ≡ false → Stays b w.course.now t
  stays_quiet f =
      stays_is b w.course.now t
      (⊎_elim (λ (e : t ≡ w.course.now). e)
      (λ (e : Accepted c.selected c.tag c.command w.course.now t). harmless c.selected c.tag c.command w.course.now t f e)
      (carried_effect c w.course.now r t after carries))

  come_by : (m : Bool) → is_mutating c.command ≡ m → IsUnsent p.told p.resumed b w → HasCome m entry p.told p.resumed b (answered_world c r t w)
  come_by true e u =
      let of : IsOf b w.course.now c = kept.waits (record { command = c; waits = refl; mutating = e }) in
      record {
        among = inr (inl refl);
        was_said = inl refl;
        after = after;
        carries = carries;
        kept = kept;
        is_of = of;
        first = u.same w.course.first known.course.first ∙ of.none;
        later = refl;
      }
  come_by false e u =
      let st : Stays b w.course.now t = stays_quiet e in
      record { unsent = unsent_grows p.told p.resumed b w (answered_world c r t w) (grows_carried c r t w) st u; stays = st }

  answered : IsWaiting c c p b w → ReplyIsOwed c p b (answered_world c r t w)
  answered x = record {
    said = entry;
    rows = None;
    rest = w.course.said;
    last = refl;
    fetched = λ e h. absurd (cc);
    command = refl;
    among = inr (inl refl);
    after = after;
    carries = carries;
    selected = ap (selected_after c.command r) x.selected;
    at = λ selected e. known.valid selected (x.selected ∙ e);
    fresh = kept.fresh;
    come = come_by (is_mutating c.command) refl x.unsent;
  }

  -- the FETCH of all rows behind a SELECT
  rows_answered : (o : Waiting) → FetchesRows o c p b w → ReplyIsOwed o p b (answered_world c r t w)
  rows_answered o x =
      let same : selected_after c.command r w.selected ≡ w.selected = ap (λ (y : Command). selected_after y r w.selected) x.asks in
      let st : Stays b w.course.now t = stays_quiet (ap is_mutating x.asks) in
      let from : LeadsTo x.answered.said.before w.course.now = known.since x.answered.said.before x.answered.among in
      record {
        said = x.answered.said;
        rows = Some entry;
        rest = x.answered.rest;
        last =
            ap (λ (l : List Said). entry ∷ l)
            (x.answered.last ∙ ap (λ (y : Option Said). with_rows y (x.answered.said ∷ x.answered.rest)) x.none);
        fetched = λ e h.
            subst (λ (y : Said). IsFetched x.answered.said y (answered_world c r t w)) (same_Some entry e h) (record {
              asks = x.asks;
              selected = x.selected ∙ ap name_of (sym same);
              among = inr (inl refl);
              after = after;
              carries = carries;
              evolves = from.evolves;
            });
        command = x.answered.command;
        among = inr x.answered.among;
        after = x.answered.after;
        carries = x.answered.carries;
        selected = same ∙ x.answered.selected;
        at = x.answered.at;
        fresh = x.answered.fresh;
        come = come_on p b w (answered_world c r t w) (grows_carried c r t w) st (is_mutating o.command) x.answered.said from.well x.answered.come;
      }

  came_carried : (owed waiting : Option Waiting) → waiting ≡ Some c → Came owed waiting p b w → Came owed None p b (answered_world c r t w)
  came_carried None None = λ e x. absurd (cc)
  came_carried None (Some y) = λ e x. absurd x
  came_carried (Some o) None = λ e x. absurd (cc)
  came_carried (Some o) (Some y) = λ e x.
      let y_is : y ≡ c = same_Some y c e in
      ⊎_elim (λ (i : IsWaiting o y p b w).
      let o_is : c ≡ o = sym y_is ∙ i.is in
      subst (λ (z : Waiting). IsNeeded (need_of p b) z p.selected b × ReplyIsOwed z p b (answered_world c r t w)) o_is (
        subst (λ (z : Waiting). IsNeeded (need_of p b) z p.selected b) (sym o_is) x.0,
        answered (record { is = refl; selected = i.selected; unsent = i.unsent }),
      ))
      (λ (f : FetchesRows o y p b w). (x.0, rows_answered o (subst (λ (z : Waiting). FetchesRows o z p b w) y_is f))) x.1

  valid_still : (selected : Selected) → w.selected ≡ Some selected → IsAt selected t
  valid_still selected h = under_stays selected.name selected.validity w.course.now t step
      (carried_validity c w.course.now t selected.name (carried_effect c w.course.now r t after carries)) (known.valid selected h)

  valid_after : (command : Command) → c.command ≡ command → (selected : Selected) → selected_after command r w.selected ≡ Some selected →
      IsAt selected t
  valid_after commands.Capability is selected h = valid_still selected h
  valid_after (commands.Login account) is selected h = valid_still selected h
  valid_after (commands.Plain account) is selected h = valid_still selected h
  valid_after (commands.Enable rev2) is selected h = valid_still selected h
  valid_after (commands.Select name since) is selected h =
      valid_selected name since c r w.course.now t after is carries step r.ending refl selected h
  valid_after commands.FetchAll is selected h = valid_still selected h
  valid_after (commands.FetchRow uid) is selected h = valid_still selected h
  valid_after (commands.Search from id) is selected h = valid_still selected h
  valid_after (commands.FetchIds uids) is selected h = valid_still selected h
  valid_after (commands.FetchText uid) is selected h = valid_still selected h
  valid_after (commands.Store uid since add flags) is selected h = valid_still selected h
  valid_after (commands.Shift uid to) is selected h = valid_still selected h
  valid_after (commands.Copy uid to) is selected h = valid_still selected h
  valid_after (commands.Expunge uid) is selected h = valid_still selected h
  valid_after (commands.Append to flags text) is selected h = valid_still selected h
  valid_after commands.Logout is selected h = valid_still selected h

pub carried_knows : (p : Player) (b : Meaning) (w : World) (c : Waiting) (r : Replies) (t : Server) (after : Option (List ℕ)) →
    w.waiting ≡ Some c →
    CarriesOut c w.course.now r t after → KeptBook b w.course.now (Some c) → KeptBook b t None → Knows p b w → Knows p b (answered_world c r t w)
carried_knows p b w c r t after waits carries kept later k =
    knows_from p b w (answered_world c r t w) (grows_carried c r t w) (course_carried c r t w.course after carries k.course)
    (since_carries c r w.course.now t after kept.well carries) later.well later.open_intent
    (λ selected h. valid_after p b w c r t after carries kept k c.command refl selected h)
    (came_carried p b w c r t after carries kept k w.owed w.waiting waits k.came) k
