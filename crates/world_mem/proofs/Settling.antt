-- A command that waited, as the next connection is made.
use Rattle.std.proofs.Common.{◌≡◌, inl, inr, ℕ, Bool, true, false, List, [], ◌∷◌, ◌++◌, Option, Some, None, refl, sym, ◌∙◌, ap, subst}
use Rattle.std.proofs.Math.Logic.{∥∥₁_elim}
use Rattle.std.proofs.lemmas.Bool.{true≢false}
use Rattle.std.proofs.lemmas.Option.{same_Some}
use Rattle.std.specs.Coded.{×_prop, Coded-set}
use Rattle.imap_model.specs.contracts.command.Command.{the_row as command_row}
use Rattle.mail_base.specs.contracts.tag.Tag.{the_row as tag_row}
use Rattle.std.proofs.lemmas.List.{append-nil}
use Rattle.imap_model.specs.CarriedOut.{CarriesOut}
use Rattle.imap_model.specs.Carrying.{Waiting}
use Rattle.imap_model.specs.Held.{IsHeld, IsHeldMark, IsSent}
use Rattle.imap_model.specs.OneText.{IsKept, IsMark, IsWritten}
use Rattle.imap_model.specs.Talking.{Connecting, as_before, carries}
use Rattle.imap_model.specs.WellFormed.{IsWellFormed}
use Rattle.imap_model.specs.declared.command.Command.{Command}
use Rattle.imap_model.specs.declared.command.Command.TheVariants as commands
use Rattle.imap_model.specs.declared.mark.Mark.{Mark}
use Rattle.imap_model.specs.declared.server.Server.{Server}
use Rattle.imap_model.proofs.PlainCase.{plain_case}
use Rattle.imap_model.proofs.SameCommand.{one_text}
use Rattle.mail_base.specs.declared.tag.Tag.{Tag}
use Rattle.server_mem.specs.Answered.{after_as, IsAnswered}
use Rattle.command_texts.specs.TextLaws.{NoTextIsAFront, TextsAreCut}
use Rattle.command_texts.specs.HeardParts.{IsWhole}
use Rattle.server_mem.specs.Hearing.{with_bytes}
use Rattle.server_mem.specs.States.{State, turn_at, plain_at, muted_code, after_turn, disconnected}
use Rattle.server_mem.specs.declared.outcome.Answered.{Answered}
use Rattle.server_mem.specs.declared.outcome.Answered.TheVariants as answers
use Rattle.world_traits.specs.Links.{Linked}
use Rattle.world_mem.specs.Both.{Both}
use Rattle.world_mem.specs.Heard.{CarriesNone, CarriesOne, is_carried}
use Rattle.world_mem.specs.Running.{Run, step, carried_out, waiting_of, answers_as}
use Rattle.world_mem.specs.Standing.{Stands, IsComplete}
use Rattle.world_mem.specs.declared.course.Phase.{Phase}
use Rattle.world_mem.specs.declared.course.Phase.TheVariants as phases
use Rattle.world_mem.specs.declared.did.Did.TheVariants as did
use Rattle.world_mem.specs.declared.did.Held.{Held}
use Rattle.world_mem.proofs.Answering.{one_step}
use Rattle.world_mem.proofs.Doing.{cut_same, server_same, waiting_whole}
use Rattle.world_mem.proofs.Hearing.{phase_stands}
use Rattle.world_mem.proofs.OnePart.{one_part}

-- what a program holds of a command is kept as its type keeps it
mark_kept : (since : Option Mark) → IsHeldMark since → IsMark since
mark_kept None held = tt
mark_kept (Some mark) held = (held.0.fits, held.1.fits)

held_kept : (c : Command) → IsHeld c → IsKept c
held_kept commands.Capability held = tt
held_kept (commands.Login account) held = held.kept
held_kept (commands.Plain account) held = held.kept
held_kept (commands.Enable rev2) held = tt
held_kept (commands.Select name since) held = (held.0, mark_kept since held.1)
held_kept commands.FetchAll held = tt
held_kept (commands.FetchRow uid) held = held.fits
held_kept (commands.Search from id) held = (held.0.fits, held.1)
held_kept (commands.FetchIds uids) held = held
held_kept (commands.FetchText uid) held = held.fits
held_kept (commands.Store uid since add flags) held = (held.0.fits, held.1.fits, held.2)
held_kept (commands.Shift uid to) held = (held.0.fits, held.1)
held_kept (commands.Copy uid to) held = (held.0.fits, held.1)
held_kept (commands.Expunge uid) held = held.fits
held_kept (commands.Append to flags octets) held = held
held_kept commands.Logout held = tt

pub sent_written : (tag : Tag) (c : Command) → IsSent tag c → IsWritten tag c
sent_written tag c sent = record { writable = sent.writable; kept_tag = sent.tag_fits; kept = held_kept c sent.held }

-- parts are the whole text of one command
pub one_whole : (one other : Tag) (left right : Command) (parts : List (List ℕ)) → IsWhole one left parts → IsWhole other right parts →
    (one ≡ other) × (left ≡ right)
one_whole one other left right parts a b = one_text one other left right (sent_written one left a.sent) (sent_written other right b.sent) (a.text ∙ sym b.text)

-- a server that isn't muted tells what it did
pub plain_turn : (s : State) (tag : Tag) (command : Command) → s.muted ≡ false →
    CarriesOut (record { selected = s.selected; tag = tag; command = command }) s.server
    (plain_at s tag command).replies (plain_at s tag command).server (plain_at s tag command).selected →
    CarriesOut (record { selected = s.selected; tag = tag; command = command }) s.server
    (turn_at s tag command).replies (turn_at s tag command).server (turn_at s tag command).selected
plain_turn s tag command lawful does =
    let t = plain_at s tag command in
    subst (λ (muted : Bool). CarriesOut (record { selected = s.selected; tag = tag; command = command }) s.server
    (record t.replies { code = muted_code muted t.replies.code }) t.server t.selected) (sym lawful) does

module _ (files : Both) (server : State) (phase : Phase) (held : Option Held) (parts : List (List ℕ)) (unfinished : ℕ) (lines : List ℕ)
    (received : ℕ) (r : Run) (h : Stands files server phase held parts unfinished lines received r) where
  -- it is dropped
  pub dropped_stands : (u : State) → disconnected u ≡ disconnected server → Stands files u phases.Off held parts unfinished lines received (step did.Greeted r)
  dropped_stands u is = record {
    files_are = h.files_are;
    server_is = is ∙ cut_same phase server r.state h.server_is;
    held_is = refl;
    parts_are = refl;
    counted = refl;
    rested = refl;
    told = ∣ tt ∣₁;
    whole = ∣ tt ∣₁;
    within = h.within;
    server_fits = h.server_fits;
    selected_fits = refl;
    waits = refl;
    sound = refl;
    comes = refl;
    lawful = h.lawful;
  }

  module _ (waits : phase ≡ phases.Waiting) (x : Held) (is : held ≡ Some x) where
    now : Stands files server phases.Waiting held parts unfinished lines received r
    now = phase_stands files server phase phases.Waiting held parts unfinished lines received r h waits

    held_now : r.held ≡ Some x
    held_now = sym now.held_is ∙ is

    -- something waits
    pub not_free : r.held ≡ None → ⊥
    not_free none = absurd (cc (sym none ∙ held_now))

    -- it isn't one that is dropped
    pub not_dropped : x.carried ≡ true → (y : Held) → r.held ≡ Some y → y.carried ≡ false → ⊥
    not_dropped carried y there drops = true≢false (sym carried ∙ ap (λ (h : Held). h.carried) (same_Some x y (sym held_now ∙ there)) ∙ drops)

    -- it is carried out
    pub settled_told : IsWellFormed server.server.boxes → Linked Connecting r.clock (step did.Settled r).clock
    settled_told well =
        let t = turn_at r.state x.tag x.command in
        let w : Waiting = record { selected = r.state.selected; tag = x.tag; command = x.command } in
        let same : server.server ≡ r.state.server = server_same phases.Waiting server r.state now.server_is in
        let lawful : CarriesOut w r.state.server t.replies t.server t.selected =
        plain_turn r.state x.tag x.command h.lawful (plain_case x.tag r.state.server
        (subst (λ (s : Server). IsWellFormed s.boxes) same well) r.state.choices r.state.selected x.command) in
        subst (λ (o : Option Held). Linked Connecting r.clock (carried_out o r).clock) (sym held_now)
        (one_step Connecting (answers_as r.state [] (answers.Carried x.tag x.command)) r.clock
        (as_before (carries w t.replies t.server t.selected (now.waits ∙ ap (waiting_of r.state) held_now)
        (subst (λ (s : Server). CarriesOut w s t.replies t.server t.selected) (sym now.server_fits) lawful))))

    pub settled_stands : TextsAreCut → (u : State) → CarriesOne (with_bytes x.part server) u →
        Stands files u phases.Off held parts unfinished lines received (step did.Settled r)
    settled_stands cut u one =
        subst (λ (o : Option Held). Stands files u phases.Off held parts unfinished lines received (carried_out o r)) (sym held_now)
        (record {
          files_are = h.files_are;
          server_is = becomes;
          held_is = refl;
          parts_are = refl;
          counted = refl;
          rested = refl;
          told = ∣ tt ∣₁;
          whole = ∣ tt ∣₁;
          within = h.within;
          server_fits = refl;
          selected_fits = refl;
          waits = refl;
          sound = refl;
          comes = refl;
          lawful = h.lawful;
        })
      where
        same_parts : server.parts ≡ r.state.parts
        same_parts = ap (λ (s : State). s.parts) now.server_is

        complete : ∥ IsWhole x.tag x.command (server.parts ++ x.part ∷ []) ∥₁
        complete = subst (λ (p : List (List ℕ)). ∥ IsWhole x.tag x.command (p ++ x.part ∷ []) ∥₁) (sym same_parts)
            (subst (λ (o : Option Held). ∥ IsComplete o r.state.parts ∥₁) is now.whole)

        here : IsWhole x.tag x.command (server.parts ++ x.part ∷ []) → (one.tag ≡ x.tag) × (one.command ≡ x.command)
        here whole =
            let empty = waiting_whole files server phase held parts unfinished lines received r h waits in
            let bytes : x.part ++ [] ≡ one.answer.part ++ one.is.rest = append-nil x.part ∙ ap (λ (b : List ℕ). b ++ x.part) (sym empty) ∙ one.is.cut in
            let part = one_part server.parts x.part one.answer.part [] one.is.rest
            (cut x.tag x.command server.parts x.part [] whole.sent whole.text) one.is.part bytes in
            let may : IsWhole one.tag one.command (server.parts ++ one.answer.part ∷ []) =
            subst (IsAnswered (with_bytes x.part server) (server.parts ++ one.answer.part ∷ [])) one.carried one.is.may in
            one_whole one.tag x.tag one.command x.command (server.parts ++ x.part ∷ [])
            (subst (λ (p : List ℕ). IsWhole one.tag one.command (server.parts ++ p ∷ [])) (sym part.0) may) whole

        same : (one.tag ≡ x.tag) × (one.command ≡ x.command)
        same = ∥∥₁_elim complete (×_prop (Coded-set tag_row.coded one.tag x.tag) (Coded-set command_row.coded one.command x.command)) here

        after : Tag → Command → State → State
        after tag command s = disconnected (after_turn s (turn_at s tag command))

        answered : one.answer.answered ≡ answers.Carried x.tag x.command
        answered = one.carried ∙ ap (λ (t : Tag). answers.Carried t one.command) same.0 ∙ ap (answers.Carried x.tag) same.1

        becomes : disconnected u ≡ disconnected (after_as r.state [] (answers.Carried x.tag x.command))
        becomes = ap disconnected one.is.after
            ∙ ap (λ (a : Answered). disconnected (after_as (record (with_bytes x.part server) { begun = one.is.rest })
            (server.parts ++ one.answer.part ∷ []) a)) answered
            ∙ ap (after x.tag x.command) now.server_is

    -- it is carried out, where memory isn't wanting
    pub carries_it : TextsAreCut → NoTextIsAFront → CarriesNone (with_bytes x.part server) → ⊥
    carries_it cut no_front none = ∥∥₁_elim (subst (λ (o : Option Held). ∥ IsComplete o r.state.parts ∥₁) is now.whole) (hlevel)
        (λ whole. here (subst (λ (p : List (List ℕ)). IsWhole x.tag x.command (p ++ x.part ∷ []))
        (sym (ap (λ (s : State). s.parts) now.server_is)) whole) none)
      where
        empty : server.begun ≡ []
        empty = waiting_whole files server phase held parts unfinished lines received r h waits

        no_other : (a : Answered) → IsWhole x.tag x.command (server.parts ++ x.part ∷ []) →
            IsAnswered (with_bytes x.part server) (server.parts ++ x.part ∷ []) a → is_carried a ≡ false → ⊥
        no_other (answers.Carried tag command) whole may other = absurd (cc other)
        no_other (answers.Asked tag) whole may other = no_front x.tag tag x.command may.0 (server.parts ++ x.part ∷ []) whole may.1
        no_other (answers.Refused tag) whole may other = no_front x.tag tag x.command may.0 (server.parts ++ x.part ∷ []) whole may.2
        no_other (answers.Bad tag) whole may other = may.0.whole x.tag x.command whole

        here : IsWhole x.tag x.command (server.parts ++ x.part ∷ []) → CarriesNone (with_bytes x.part server) → ⊥
        here whole (inl none) = none x.part [] (cut x.tag x.command server.parts x.part [] whole.sent whole.text)
            (ap (λ (b : List ℕ). b ++ x.part) empty ∙ sym (append-nil x.part))
        here whole (inr one) =
            let bytes : x.part ++ [] ≡ one.answer.part ++ one.is.rest = append-nil x.part ∙ ap (λ (b : List ℕ). b ++ x.part) (sym empty) ∙ one.is.cut in
            let part = one_part server.parts x.part one.answer.part [] one.is.rest
            (cut x.tag x.command server.parts x.part [] whole.sent whole.text) one.is.part bytes in
            no_other one.answer.answered whole (subst (λ (p : List ℕ). IsAnswered (with_bytes x.part server)
            (server.parts ++ p ∷ []) one.answer.answered) (sym part.0) one.is.may) one.other

-- which answers are of a command that was carried out
pub carried_is : (a : Answered) → is_carried a ≡ true → (tag : Tag) × (command : Command) × (a ≡ answers.Carried tag command)
carried_is (answers.Carried tag command) is = (tag, command, refl)
carried_is (answers.Asked tag) is = absurd (cc is)
carried_is (answers.Refused tag) is = absurd (cc is)
carried_is (answers.Bad tag) is = absurd (cc is)

pub not_carried : (a : Answered) (s : State) (rest : List ℕ) (parts : List (List ℕ)) → is_carried a ≡ false →
    disconnected (after_as (record s { begun = rest }) parts a) ≡ disconnected s
not_carried (answers.Carried tag command) s rest parts is = absurd (cc is)
not_carried (answers.Asked tag) s rest parts is = refl
not_carried (answers.Refused tag) s rest parts is = refl
not_carried (answers.Bad tag) s rest parts is = refl
