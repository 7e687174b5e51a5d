-- How the command of the action that is due ended, and that this may be recorded.
use Rattle.std.proofs.Common.{◌≡◌, inl, inr, ℕ, ◌≤◌, arith, Bool, true, false, cond, List, [], length, Option, Some, None, Result, Ok, refl}
use Rattle.std.proofs.Common.{suc, sym, ◌∙◌, ap, subst}
use Rattle.std.specs.Option.{is_some, option_map}
use Rattle.std.proofs.lemmas.Bool.{cond_both, eq-eqb}
use Rattle.std.proofs.lemmas.Option.{same_Some}
use Rattle.imap_model.specs.CarriedOut.{CarriesOut, Decides, RefusalCode, Unstored, only}
use Rattle.imap_model.specs.Carrying.{IsThere, Moves, Stores, StoresNothing, Waiting}
use Rattle.imap_model.specs.Changes.{floor_of}
use Rattle.imap_model.specs.Lookups.{box_at, message_at, validity_of}
use Rattle.imap_model.specs.Mutating.{is_mutating}
use Rattle.imap_model.specs.Ours.{ours}
use Rattle.imap_model.specs.Remarks.{Remarks, RowTold, selected_box}
use Rattle.imap_model.specs.ToldRows.{row_of}
use Rattle.imap_model.specs.declared.code.Code.{Code}
use Rattle.imap_model.specs.declared.code.Code.TheVariants as codings
use Rattle.imap_model.specs.declared.command.Command.TheVariants as commands
use Rattle.imap_model.specs.declared.deed.Deed.{Deed}
use Rattle.imap_model.specs.declared.ending.Ending.{Ending}
use Rattle.imap_model.specs.declared.ending.Ending.TheVariants as endings
use Rattle.imap_model.specs.declared.fetched.Fetched.{Fetched}
use Rattle.imap_model.specs.declared.item.Item.{Item}
use Rattle.imap_model.specs.declared.replies.Replies.{Replies}
use Rattle.imap_model.specs.declared.server.Mailbox.{Mailbox}
use Rattle.imap_model.specs.declared.server.Message.{Message}
use Rattle.imap_model.specs.declared.server.Server.{Server}
use Rattle.action_queue.specs.Book.{Meaning}
use Rattle.action_queue.specs.Queues.{due, due_action}
use Rattle.action_queue.specs.Rules.{suits}
use Rattle.action_queue.specs.Targets.{is_never, resolved}
use Rattle.action_queue.specs.declared.action.Action.{Action}
use Rattle.action_queue.specs.declared.action.Action.TheVariants as actions
use Rattle.action_queue.specs.declared.found.Found.{Found}
use Rattle.action_queue.specs.declared.found.Found.TheVariants as found
use Rattle.action_queue.specs.declared.intent.Intent.{Intent}
use Rattle.action_queue.specs.declared.intent.Intent.TheVariants as intents
use Rattle.action_queue.specs.declared.outcome.Kind.{Kind}
use Rattle.action_queue.specs.declared.outcome.Kind.TheVariants as kinds
use Rattle.action_queue.specs.declared.outcome.Outcome.{Outcome}
use Rattle.action_queue.specs.declared.outcome.Outcome.TheVariants as outcomes
use Rattle.action_queue.specs.declared.queued.Queued.{Queued}
use Rattle.action_queue.specs.declared.target.Target.{Target}
use Rattle.playback.specs.Course.{Said}
use Rattle.playback.specs.Knows.{IsSent, WasSeen}
use Rattle.playback.specs.Needs.{due_id}
use Rattle.book_laws.specs.Of.{IsOf, command_of, tag_of}
use Rattle.book_laws.specs.Once.{Fits, FitsConflict, is_unsure}
use Rattle.book_laws.specs.Open.{intent_name, intent_validity}
use Rattle.playback.specs.Replying.{copied_code, flag_gone, last_copied, last_fetch, move_gone, names_modified, read_append, read_append_by}
use Rattle.playback.specs.Replying.{read_appended, read_copied, read_move, read_move_by, read_moved, read_sent, read_store, read_stored}
use Rattle.book_laws.specs.Sound.{HasIntent, IsSound}
use Rattle.playback.specs.Why.{EndedBy, NamesModified, NoRow, RowAt, RowIs, RowPassed, RowWas, WasCarried, WhyKind, WhyOutcome}
use Rattle.playback.specs.Worlds.{IsUnder, World}
use Rattle.playback.specs.declared.finding.Finding.{Finding}
use Rattle.playback.specs.declared.finding.Finding.TheVariants as findings
use Rattle.book_laws.proofs.Carrying.{append_done, move_done, store_done}
use Rattle.playback.proofs.CodesTold.{copied_read, last_this, may_name, none_copied, only_has, store_name, stored_there, unmodified}
use Rattle.playback.proofs.Fetches.{last_told, none_told}
use Rattle.book_laws.proofs.Queueing.{Suited, is_suited}
use Rattle.playback.proofs.RowFacts.{IsAboutSpot, is_row, is_was, row_absent, row_passes, spot_at}

-- an intent is one for its action
pub suited_is : (b : Meaning) → IsSound b → (q : Queued) → due_action b.queue ≡ Some q → (intent : Intent) → b.pending ≡ Some intent →
    Suited b.queue q.action intent
suited_is b sound q e intent p =
    let h : HasIntent b intent = sound.intent intent p in
    is_suited b.queue q.action intent (subst (λ (x : Queued). suits b.queue x.action intent ≡ true)
    (same_Some h.queued q (sym h.there ∙ e)) h.suits_it)

-- no intent is one for an action whose message never comes
apart_from : (f : Found) (by : ℕ) (name : List ℕ) (validity uid : ℕ) → f ≡ found.Never by → f ≡ found.Real name validity uid → ⊥
apart_from f by name validity uid n r = let h : found.Never by ≡ found.Real name validity uid = sym n ∙ r in absurd (cc)

pub no_flag : (b : Meaning) (target : Target) (add : Bool) (asked : List (List ℕ)) (by : ℕ) → resolved b.queue target ≡ found.Never by →
    (intent : Intent) →
    Suited b.queue (actions.Flag target add asked) intent → ⊥
no_flag b target add asked by n (intents.Store name validity uid modseq) s = apart_from (resolved b.queue target) by name validity uid n s
no_flag b target add asked by n (intents.Shift from validity uid to) s = s
no_flag b target add asked by n (intents.Put to validity uidnext) s = s

pub no_move : (b : Meaning) (target : Target) (to : List ℕ) (by : ℕ) → resolved b.queue target ≡ found.Never by → (intent : Intent) →
    Suited b.queue (actions.Move target to) intent → ⊥
no_move b target to by n (intents.Shift from validity uid other) s = apart_from (resolved b.queue target) by from validity uid n s.0
no_move b target to by n (intents.Store name validity uid modseq) s = s
no_move b target to by n (intents.Put other validity uidnext) s = s

pub is_never_of : (f : Found) (by : ℕ) → f ≡ found.Never by → is_never f by ≡ true
is_never_of f by n = ap (λ (x : Found). is_never x by) n ∙ eq-eqb by by refl

-- what is recorded is true, and fits the deeds
abbrev pub IsRight : Meaning → World → Bool → Outcome → Type 0
IsRight b w resumed outcome = Fits outcome (ours (due_id b) w.course.now.history) × WhyOutcome outcome resumed b w.course

-- so is the outcome, if this is one
abbrev pub IsRightIf : Meaning → World → Bool → Result Finding Item → Type 0
IsRightIf b w resumed r = (outcome : Outcome) → r ≡ Ok (findings.Ended outcome) → IsRight b w resumed outcome

right_if : (b : Meaning) (w : World) (resumed : Bool) (outcome : Outcome) → IsRight b w resumed outcome →
    IsRightIf b w resumed (Ok (findings.Ended outcome))
right_if b w resumed outcome r = λ other e.
    let is : outcome ≡ other = cc in
    subst (λ (x : Outcome). IsRight b w resumed x) is r

-- the command that was sent is that of the action that is due
module _ (b : Meaning) (w : World) (q : Queued) (e : due_action b.queue ≡ Some q) (said : Said) (sent : IsSent b said w) where
  due_same : sent.is_of.queued ≡ q
  due_same = same_Some sent.is_of.queued q (sym sent.is_of.there ∙ e)

  abbrev of_due : IsOf b said.before said.command
  of_due = record {
    intent = sent.is_of.intent;
    pending = sent.is_of.pending;
    queued = q;
    there = e;
    is = subst (λ (x : Queued). command_of (tag_of (suc (due b.queue)) x) x.action sent.is_of.intent ≡ Some said.command) due_same sent.is_of.is;
    none = sent.is_of.none;
    at = sent.is_of.at;
  }

-- of any command of the action
module _ (b : Meaning) (w : World) (resumed : Bool) (q : Queued) (e : due_action b.queue ≡ Some q) (intent : Intent)
    (pending : b.pending ≡ Some intent)
    (said : Said) (sent : IsSent b said w) (c : Waiting) (given : command_of (tag_of (due_id b) q) q.action intent ≡ Some c)
    (tag : c.tag ≡ tag_of (due_id b) q) (changes : is_mutating c.command ≡ true) where
  command_is : said.command ≡ c
  command_is =
      let of : IsOf b said.before said.command = sent.is_of in
      let q_is : of.queued ≡ q = same_Some of.queued q (sym of.there ∙ e) in
      let i_is : of.intent ≡ intent = same_Some of.intent intent (sym of.pending ∙ pending) in
      same_Some said.command c (sym of.is
      ∙ ap (λ (x : Queued). command_of (tag_of (due_id b) x) x.action of.intent) q_is
      ∙ ap (λ (x : Intent). command_of (tag_of (due_id b) q) q.action x) i_is
      ∙ given)

  carries_it : CarriesOut c said.before said.reply said.behind sent.after
  carries_it = subst (λ (x : Waiting). CarriesOut x said.before said.reply said.behind sent.after) command_is sent.carries

  none_now : said.behind ≡ said.before → ours (due_id b) w.course.now.history ≡ []
  none_now t = sent.later ∙ ap (λ (s : Server). ours (due_id b) s.history) t ∙ sent.is_of.none

  as_long : said.behind ≡ said.before → length (ours (due_id b) w.course.now.history) ≡ length (ours (due_id b) w.course.first.history)
  as_long t = ap (λ (l : List Deed). length l) (none_now t ∙ sym sent.first)

  -- the intent's mailbox was there
  was_under : IsUnder (intent_name intent) (intent_validity intent) said.before
  was_under =
      subst (λ (x : Intent). IsUnder (intent_name x) (intent_validity x) said.before)
      (same_Some sent.is_of.intent intent (sym sent.is_of.pending ∙ pending)) sent.is_of.at

  was_carried : (P : Action → Said → Type 0) → P q.action said → WasCarried P b w.course
  was_carried P h = (
    q,
    e,
    (
      said,
      sent.was_said,
      (
        ap (λ (x : Waiting). x.tag) command_is ∙ tag,
        ap (λ (x : Waiting). is_mutating x.command) command_is
            ∙ changes,
        h,
      ),
    ),
  )

  -- refused
  refused : (ending : Ending) (kind : Kind) → is_unsure kind ≡ false → said.reply.ending ≡ ending →
      (NamesModified c.command said.reply.code → ⊥) →
      said.behind ≡ said.before → (WasCarried (EndedBy ending) b w.course → WhyKind kind resumed b w.course) →
      IsRight b w resumed (outcomes.Conflict kind)
  refused ending kind sure ends names t why = (
    subst (λ (u : Bool). FitsConflict u (ours (due_id b) w.course.now.history)) (sym sure) (none_now t),
    why (was_carried (EndedBy ending)
        (ends, λ n. names (subst (λ (x : Waiting). NamesModified x.command said.reply.code) command_is n))),
  )

  refused_no : said.reply.ending ≡ endings.No → (NamesModified c.command said.reply.code → ⊥) → said.behind ≡ said.before →
      IsRight b w resumed (outcomes.Conflict kinds.RefusedNo)
  refused_no ends names t = refused endings.No kinds.RefusedNo refl ends names t (λ h. h)

  refused_bad : said.reply.ending ≡ endings.Bad → (NamesModified c.command said.reply.code → ⊥) → said.behind ≡ said.before →
      IsRight b w resumed (outcomes.Conflict kinds.RefusedBad)
  refused_bad ends names t = refused endings.Bad kinds.RefusedBad refl ends names t (λ h. h)

-- a STORE
module _ (b : Meaning) (w : World) (resumed : Bool) (q : Queued) (e : due_action b.queue ≡ Some q) (said : Said) (sent : IsSent b said w)
    (target : Target) (add : Bool) (asked : List (List ℕ)) (a : q.action ≡ actions.Flag target add asked)
    (name : List ℕ) (validity uid modseq : ℕ) (pending : b.pending ≡ Some (intents.Store name validity uid modseq))
    (about : IsAboutSpot b.queue q.action (spot_at name validity uid)) (seen : RowWas (RowAt modseq) b w.course) where
  abbrev store_meant : Intent
  store_meant = intents.Store name validity uid modseq

  abbrev store : Waiting
  store = record { selected = Some name; tag = tag_of (due_id b) q; command = commands.Store uid modseq add asked }

  store_gives : command_of (tag_of (due_id b) q) q.action store_meant ≡ Some store
  store_gives = ap (λ (x : Action). command_of (tag_of (due_id b) q) x store_meant) a

  store_under : IsUnder name validity said.before
  store_under = was_under b w resumed q e store_meant pending said sent store store_gives refl refl

  store_none : said.behind ≡ said.before → ours (due_id b) w.course.now.history ≡ []
  store_none t = none_now b w resumed q e store_meant pending said sent store store_gives refl refl t

  store_gone : (IsThere (Some name) uid said.before → ⊥) → RowWas NoRow b w.course
  store_gone f =
      is_was b w.course q e (spot_at name validity uid) about NoRow
      (said.before, sent.among, row_absent (spot_at name validity uid) q.action said.before store_under f)

  store_gone_so : (r : Bool) → resumed ≡ r → (IsThere (Some name) uid said.before → ⊥) → said.behind ≡ said.before →
      IsRightIf b w resumed (Ok (flag_gone r))
  store_gone_so true r f t =
      right_if b w resumed (outcomes.Conflict kinds.GoneAfterLoss) (
        subst (λ (l : List Deed). length l ≤ 1) (sym (store_none t)) (omega arith),
        (
          record { open_then = r; as_many = as_long b w resumed q e store_meant pending said sent store store_gives refl refl t },
          store_gone f,
        ),
      )
  store_gone_so false r f t = right_if b w resumed (outcomes.Conflict kinds.MessageGone) (store_none t, (r, store_gone f))

  store_changed : StoresNothing (Some name) uid modseq said.before said.behind →
      IsRight b w resumed (outcomes.Conflict (kinds.FlagsChanged modseq))
  store_changed x = (
    store_none x.stays,
    (
      seen,
      was_carried b w resumed q e store_meant pending said sent store store_gives refl refl
          (λ action s. RowIs (RowPassed modseq action) b.queue action s.before)
          (is_row b w.course q e (spot_at name validity uid) about (RowPassed modseq q.action) said.before
          (row_passes (spot_at name validity uid) modseq q.action said.before store_under x.greater)),
    ),
  )

  store_effect : Stores (tag_of (due_id b) q) (Some name) uid modseq add asked said.before said.behind →
      IsRight b w resumed (outcomes.Done None)
  store_effect x = (
    subst (λ (l : List Deed). Fits (outcomes.Done None) l) (sym sent.later)
        (store_done b said.before said.behind (Some said.command) sent.kept said.command (of_due b w q e said sent) (Some name) uid modseq add asked x),
    tt,
  )

  -- MODIFIED is told of a message that isn't there or has a greater mod-sequence
  refusal_passed : said.behind ≡ said.before → RefusalCode (commands.Store uid modseq add asked) store said.before said.reply.code →
      names_modified uid said.reply.code ≡ true → StoresNothing (Some name) uid modseq said.before said.behind
  refusal_passed t (inl m) n = let f : names_modified uid said.reply.code ≡ false = unmodified uid _ said.reply.code m in absurd (cc)
  refusal_passed t (inr x) n = record { greater = x.1; stays = t }

  store_passed : (ending : Ending) →
      Decides ending (commands.Store uid modseq add asked) store said.before said.reply said.behind sent.after →
      names_modified uid said.reply.code ≡ true → StoresNothing (Some name) uid modseq said.before said.behind
  store_passed endings.Ok (inl x) n =
      let f : names_modified uid said.reply.code ≡ false = unmodified uid _ said.reply.code x.says.code in absurd (cc)
  store_passed endings.Ok (inr x) n = x.effect
  store_passed endings.No x n = refusal_passed x.server x.code n
  store_passed endings.Bad x n = refusal_passed x.server x.code n

  -- the message's row is told
  found_there : (r : Replies) (t : Server) (there : IsThere (Some name) uid t) → Remarks (selected_box (Some name) t.boxes) r.untagged →
      ((x : Mailbox) (m : Message) → selected_box (Some name) t.boxes ≡ Some x → message_at uid x.messages ≡ Some m →
      RowTold r.untagged m) →
      is_some (last_fetch uid r.untagged) ≡ true
  found_there r t there says row =
      let n : there.name ≡ name = sym (same_Some name there.name there.is_selected) in
      let at : box_at name t.boxes ≡ Some there.box = subst (λ (x : List ℕ). box_at x t.boxes ≡ Some there.box) n there.named in
      ap (λ (o : Option Fetched). is_some o)
      (last_told uid there.box r.untagged (subst (λ (o : Option Mailbox). Remarks o r.untagged) at says) (λ m k. row there.box m at k)
      ∙ ap (λ (o : Option Message). option_map row_of o) there.there)

  -- and not where the message isn't there
  not_there : (x : Mailbox) → box_at name said.before.boxes ≡ Some x → (IsThere (Some name) uid said.before → ⊥) → (o : Option Message) →
      message_at uid x.messages ≡ o → o ≡ None
  not_there x at f None k = refl
  not_there x at f (Some m) k = absurd (f (record { name = name; is_selected = refl; box = x; named = at; message = m; there = k }))

  untold : (IsThere (Some name) uid said.before → ⊥) → Remarks (selected_box (Some name) said.before.boxes) said.reply.untagged →
      is_some (last_fetch uid said.reply.untagged) ≡ false
  untold f says =
      ap (λ (o : Option Fetched). is_some o)
      (none_told uid store_under.box said.reply.untagged (subst
      (λ (o : Option Mailbox). Remarks o said.reply.untagged) store_under.there says)
      (not_there store_under.box store_under.there f (message_at uid store_under.box.messages) refl))

  absent_if : names_modified uid said.reply.code ≡ false → Unstored uid modseq store said.before said.reply said.behind sent.after →
      IsThere (Some name) uid said.before → ⊥
  absent_if n x there =
      let t : names_modified uid said.reply.code ≡ true = ap (λ (code : Code). names_modified uid code) (x.modified there) ∙ only_has uid in
      absurd (cc)

  stored_so : names_modified uid said.reply.code ≡ false → (ending : Ending) → said.reply.ending ≡ ending →
      Decides ending (commands.Store uid modseq add asked) store said.before said.reply said.behind sent.after →
      IsRightIf b w resumed (Ok (read_stored uid resumed said.reply.untagged ending))
  stored_so n endings.Ok ends (inl x) =
      let there : IsThere (Some name) uid said.behind =
      subst (λ (k : List ℕ). IsThere (Some k) uid said.behind) (sym (same_Some name x.effect.found.name x.effect.found.is_selected))
      (stored_there
      (floor_of said.before.boxes x.effect.found.name) uid x.effect.flags x.effect.found.name said.before said.behind
      x.effect.becomes.effect) in
      subst (λ (t : Bool). IsRightIf b w resumed (Ok (cond t (findings.Ended (outcomes.Done None)) (flag_gone resumed))))
      (sym (found_there said.reply said.behind there x.says.untagged x.row))
      (right_if b w resumed (outcomes.Done None) (store_effect x.effect))
  stored_so n endings.Ok ends (inr x) =
      subst (λ (t : Bool). IsRightIf b w resumed (Ok (cond t (findings.Ended (outcomes.Done None)) (flag_gone resumed))))
      (sym (untold (absent_if n x) x.says))
      (store_gone_so resumed refl (absent_if n x) x.effect.stays)
  stored_so n endings.No ends x =
      right_if b w resumed (outcomes.Conflict kinds.RefusedNo)
      (refused_no b w resumed q e store_meant pending said sent store store_gives refl refl ends
      (store_name uid modseq add asked said.reply.code n) x.server)
  stored_so n endings.Bad ends x =
      right_if b w resumed (outcomes.Conflict kinds.RefusedBad)
      (refused_bad b w resumed q e store_meant pending said sent store store_gives refl refl ends
      (store_name uid modseq add asked said.reply.code n) x.server)

  pub stored_right : IsRightIf b w resumed (Ok (read_store uid modseq resumed said.reply))
  stored_right =
      let done : CarriesOut store said.before said.reply said.behind sent.after =
      carries_it b w resumed q e store_meant pending said sent store store_gives refl refl in
      cond_both (names_modified uid said.reply.code) (findings.Ended (outcomes.Conflict (kinds.FlagsChanged modseq)))
      (read_stored uid resumed said.reply.untagged said.reply.ending) (λ (f : Finding). IsRightIf b w resumed (Ok f))
      (λ t. right_if b w resumed (outcomes.Conflict (kinds.FlagsChanged modseq)) (store_changed (store_passed said.reply.ending done t)))
      (λ n. stored_so n said.reply.ending refl done)

-- a MOVE
module _ (b : Meaning) (w : World) (resumed : Bool) (q : Queued) (e : due_action b.queue ≡ Some q) (said : Said) (sent : IsSent b said w)
    (target : Target) (to : List ℕ) (a : q.action ≡ actions.Move target to)
    (from : List ℕ) (validity uid : ℕ) (pending : b.pending ≡ Some (intents.Shift from validity uid to))
    (about : IsAboutSpot b.queue q.action (spot_at from validity uid)) where
  abbrev move_meant : Intent
  move_meant = intents.Shift from validity uid to

  abbrev move : Waiting
  move = record { selected = Some from; tag = tag_of (due_id b) q; command = commands.Shift uid to }

  move_gives : command_of (tag_of (due_id b) q) q.action move_meant ≡ Some move
  move_gives = ap (λ (x : Action). command_of (tag_of (due_id b) q) x move_meant) a

  move_none : said.behind ≡ said.before → ours (due_id b) w.course.now.history ≡ []
  move_none t = none_now b w resumed q e move_meant pending said sent move move_gives refl refl t

  move_was_gone : (IsThere (Some from) uid said.before → ⊥) → RowWas NoRow b w.course
  move_was_gone f =
      is_was b w.course q e (spot_at from validity uid) about NoRow (
        said.before,
        sent.among,
        row_absent (spot_at from validity uid) q.action said.before
            (was_under b w resumed q e move_meant pending said sent move move_gives refl refl) f,
      )

  move_gone_so : (r : Bool) → resumed ≡ r → (IsThere (Some from) uid said.before → ⊥) → said.behind ≡ said.before →
      IsRightIf b w resumed (Ok (move_gone r))
  move_gone_so true r f t =
      right_if b w resumed (outcomes.Conflict kinds.SourceGone) (
        subst (λ (l : List Deed). length l ≤ 1) (sym (move_none t)) (omega arith),
        (
          record { open_then = r; as_many = as_long b w resumed q e move_meant pending said sent move move_gives refl refl t },
          move_was_gone f,
        ),
      )
  move_gone_so false r f t = right_if b w resumed (outcomes.Conflict kinds.MessageGone) (move_none t, (r, move_was_gone f))

  move_effect : (x : Moves (tag_of (due_id b) q) (Some from) uid to said.before said.behind) →
      IsRight b w resumed (outcomes.Done (Some (record { validity = validity_of (box_at to said.behind.boxes); uid = x.received })))
  move_effect x = (
    subst (λ (l : List Deed). Fits (outcomes.Done (Some (record {
      validity = validity_of
          (box_at to said.behind.boxes);
      uid = x.received;
    }))) l) (sym sent.later)
        (move_done b said.before said.behind (Some said.command) sent.kept said.command (of_due b w q e said sent) (Some from) uid to x),
    tt,
  )

  moved_so : (ending : Ending) → said.reply.ending ≡ ending →
      Decides ending (commands.Shift uid to) move said.before said.reply said.behind sent.after →
      IsRightIf b w resumed (read_move_by uid resumed (last_copied said.reply.untagged said.reply.code) ending)
  moved_so endings.Ok ends (inl x) =
      let is : x.copied ≡ codings.CopyUid (validity_of (box_at to said.behind.boxes)) (only uid) (only x.effect.received) = x.copied_is in
      let copies : copied_code x.copied ≡ Some x.copied = ap copied_code is ∙ ap (λ (code : Code). Some code) (sym is) in
      subst (λ (r : Result Finding Item). IsRightIf b w resumed r)
      (sym (ap (λ (o : Option Code). read_moved uid resumed o)
      (last_this x.copied copies (selected_box (Some from) said.behind.boxes) said.reply.untagged said.reply.code x.says x.code x.told)
      ∙ ap (read_copied uid) is ∙ copied_read uid (validity_of (box_at to said.behind.boxes)) x.effect.received))
      (right_if b w resumed (outcomes.Done (Some (record {
        validity = validity_of
            (box_at to said.behind.boxes);
        uid = x.effect.received;
      }))) (move_effect x.effect))
  moved_so endings.Ok ends (inr x) =
      subst (λ (o : Option Code). IsRightIf b w resumed (read_moved uid resumed o))
      (sym (none_copied (selected_box (Some from) said.before.boxes) said.reply.untagged said.reply.code x.says.untagged x.says.code))
      (move_gone_so resumed refl x.effect.absent x.effect.stays)
  moved_so endings.No ends x =
      right_if b w resumed (outcomes.Conflict kinds.RefusedNo)
      (refused_no b w resumed q e move_meant pending said sent move move_gives refl refl ends
      (may_name (commands.Shift uid to) (selected_box (Some from) said.before.boxes) said.reply.code x.code) x.server)
  moved_so endings.Bad ends x =
      right_if b w resumed (outcomes.Conflict kinds.RefusedBad)
      (refused_bad b w resumed q e move_meant pending said sent move move_gives refl refl ends
      (may_name (commands.Shift uid to) (selected_box (Some from) said.before.boxes) said.reply.code x.code) x.server)

  pub moved_right : IsRightIf b w resumed (read_move uid resumed said.reply)
  moved_right = moved_so said.reply.ending refl (carries_it b w resumed q e move_meant pending said sent move move_gives refl refl)

-- an APPEND
module _ (b : Meaning) (w : World) (resumed : Bool) (q : Queued) (e : due_action b.queue ≡ Some q) (said : Said) (sent : IsSent b said w)
    (to : List ℕ) (flags : List (List ℕ)) (text id : List ℕ) (a : q.action ≡ actions.Append to flags text id)
    (validity uidnext : ℕ) (pending : b.pending ≡ Some (intents.Put to validity uidnext)) where
  abbrev put_meant : Intent
  put_meant = intents.Put to validity uidnext

  abbrev append : Waiting
  append = record { selected = Some to; tag = tag_of (due_id b) q; command = commands.Append to flags text }

  put_gives : command_of (tag_of (due_id b) q) q.action put_meant ≡ Some append
  put_gives = ap (λ (x : Action). command_of (tag_of (due_id b) q) x put_meant) a

  appended_so : (ending : Ending) → said.reply.ending ≡ ending →
      Decides ending (commands.Append to flags text) append said.before said.reply said.behind sent.after →
      IsRightIf b w resumed (read_append_by said.reply.code ending)
  appended_so endings.Ok ends x =
      subst (λ (code : Code). IsRightIf b w resumed (read_appended code)) (sym x.code)
      (right_if b w resumed (outcomes.Done (Some (record { validity = validity_of (box_at to said.behind.boxes); uid = x.effect.uid }))) (
        subst (λ (l : List Deed). Fits (outcomes.Done (Some (record {
          validity = validity_of
              (box_at to said.behind.boxes);
          uid = x.effect.uid;
        }))) l) (sym sent.later)
            (append_done b said.before said.behind (Some said.command) sent.kept said.command (of_due b w q e said sent) to flags text x.effect),
        tt,
      ))
  appended_so endings.No ends x =
      right_if b w resumed (outcomes.Conflict kinds.RefusedNo)
      (refused_no b w resumed q e put_meant pending said sent append put_gives refl refl ends
      (may_name (commands.Append to flags text) (selected_box (Some to) said.before.boxes) said.reply.code x.code) x.server)
  appended_so endings.Bad ends x =
      right_if b w resumed (outcomes.Conflict kinds.RefusedBad)
      (refused_bad b w resumed q e put_meant pending said sent append put_gives refl refl ends
      (may_name (commands.Append to flags text) (selected_box (Some to) said.before.boxes) said.reply.code x.code) x.server)

  pub appended_right : IsRightIf b w resumed (read_append said.reply)
  appended_right = appended_so said.reply.ending refl (carries_it b w resumed q e put_meant pending said sent append put_gives refl refl)

-- by the kind of the action
module _ (b : Meaning) (w : World) (resumed : Bool) (q : Queued) (e : due_action b.queue ≡ Some q) (said : Said)
    (sent : IsSent b said w) where
  by_kind : (action : Action) (intent : Intent) → q.action ≡ action → b.pending ≡ Some intent → Suited b.queue action intent →
      WasSeen intent b w.course →
      IsRightIf b w resumed (read_sent resumed action intent said.reply)
  by_kind (actions.Flag target add asked) (intents.Store name validity uid modseq) a p s seen =
      stored_right b w resumed q e said sent target add asked a name validity uid modseq p
      (subst (λ (x : Action). IsAboutSpot b.queue x (spot_at name validity uid)) (sym a) s) seen
  by_kind (actions.Move target to) (intents.Shift from validity uid other) a p s seen =
      moved_right b w resumed q e said sent target to a from validity uid
      (p ∙ ap (λ (x : List ℕ). Some (intents.Shift from validity uid x)) s.1)
      (subst (λ (x : Action). IsAboutSpot b.queue x (spot_at from validity uid)) (sym a) s.0)
  by_kind (actions.Append to flags text id) (intents.Put other validity uidnext) a p s seen =
      appended_right b w resumed q e said sent to flags text id a validity uidnext
      (p ∙ ap (λ (x : List ℕ). Some (intents.Put x validity uidnext)) s)
  by_kind (actions.Flag target add asked) (intents.Shift from validity uid to) a p s seen = absurd s
  by_kind (actions.Flag target add asked) (intents.Put to validity uidnext) a p s seen = absurd s
  by_kind (actions.Move target to) (intents.Store name validity uid modseq) a p s seen = absurd s
  by_kind (actions.Move target to) (intents.Put other validity uidnext) a p s seen = absurd s
  by_kind (actions.Append to flags text id) (intents.Store name validity uid modseq) a p s seen = absurd s
  by_kind (actions.Append to flags text id) (intents.Shift from validity uid other) a p s seen = absurd s

  -- What the reply to the command of the action tells of its end is true, and fits the deeds.
  pub ended_right : (intent : Intent) → b.pending ≡ Some intent → WasSeen intent b w.course → (outcome : Outcome) →
      read_sent resumed q.action intent said.reply ≡ Ok (findings.Ended outcome) → IsRight b w resumed outcome
  ended_right intent p seen outcome k =
      by_kind q.action intent refl p (suited_is b sent.kept.sound q e intent p) seen outcome k
