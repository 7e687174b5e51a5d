-- A part of a command's text that is awaited, as it arrives.
use Rattle.std.proofs.Common.{◌≡◌, ◌⊎◌, inl, inr, ◌<◌, ◌≤◌, ◌==◌, ◌||◌, ℕ, zero, suc, Bool, true, false, List, [], ◌∷◌, ◌++◌, length}
use Rattle.std.proofs.Common.{take, drop, take-append-drop, true≢false, Option, Some, None, Result, Ok, Err, refl, sym, ◌∙◌, ap, subst}
use Rattle.std.proofs.Common.{arith}
use Rattle.std.proofs.lemmas.List.{append_assoc, append-nil}
use Rattle.std.proofs.lemmas.Option.{same_Some}
use Rattle.imap_model.specs.CarriedOut.{CarriesOut}
use Rattle.imap_model.specs.PlainServer.{denied}
use Rattle.imap_model.specs.Talking.{Peer, Answering, goes_on, refuses, carries, Awaits, IsPartOf, IsRefusal, arrived}
use Rattle.imap_model.specs.WellFormed.{IsWellFormed}
use Rattle.imap_model.specs.declared.code.Code.TheVariants as codings
use Rattle.imap_model.specs.declared.command.Command.{Command}
use Rattle.imap_model.specs.declared.server.Server.{Server}
use Rattle.imap_model.proofs.PlainCase.{plain_case}
use Rattle.mail_base.specs.declared.tag.Tag.{Tag}
use Rattle.server_mem.specs.Answered.{IsAnswered}
use Rattle.command_texts.specs.Cutting.{IsPart, NoPart}
use Rattle.command_texts.specs.TextLaws.{TextsAreCut, NoTextIsAFront, FirstPartsTellTags}
use Rattle.command_texts.specs.HeardParts.{IsWhole, IsFront}
use Rattle.server_mem.specs.States.{State, turn_at}
use Rattle.server_mem.specs.declared.outcome.Answered.{Answered}
use Rattle.server_mem.specs.declared.outcome.Answered.TheVariants as answers
use Rattle.world_traits.specs.Links.{Linked, AnyStep, becomes}
use Rattle.world_traits.specs.Moments.{Clock}
use Rattle.world_traits.specs.Sends.{Arrives, Sent}
use Rattle.world_mem.specs.Both.{Both}
use Rattle.world_mem.specs.Heard.{HearsOne, HearsPart, HearsOnly}
use Rattle.world_mem.specs.Memory.{run_of}
use Rattle.world_mem.specs.Others.{OthersChange}
use Rattle.world_mem.specs.Running.{Run, step, fronted, comes_as, answers_as}
use Rattle.world_mem.specs.Standing.{Stands, came, coming}
use Rattle.world_mem.specs.declared.course.Course.{Course}
use Rattle.world_mem.specs.declared.course.Phase.TheVariants as phases
use Rattle.world_mem.specs.declared.did.Did.TheVariants as did
use Rattle.world_mem.specs.declared.did.Held.{Held}
use Rattle.world_mem.proofs.Answering.{one_step, linked_start, linked_then}
use Rattle.world_mem.proofs.Doing.{none_long, zero_is, server_same}
use Rattle.world_mem.proofs.Hearing.{after_begun, phase_stands}
use Rattle.world_mem.proofs.OnePart.{one_part, some_part}
use Rattle.world_mem.proofs.Settling.{one_whole, plain_turn}

-- whatever is heard, the files stay
pub any_heard : (server u : State) (old new : Run) → HearsOne server old u new → Linked AnyStep old.clock new.clock
any_heard server u old new one =
    let parts = old.state.parts ++ one.answer.part ∷ [] in
    let mid = becomes (comes_as parts one.answer.answered) old.clock in
    subst (λ (r : Run). Linked AnyStep old.clock r.clock) (sym one.run)
    (linked_then AnyStep old.clock mid (becomes (answers_as old.state parts one.answer.answered) mid)
    (one_step AnyStep (comes_as parts one.answer.answered) old.clock tt) (one_step AnyStep (answers_as old.state parts one.answer.answered) mid tt))

-- behind nothing no part is heard
pub none_heard : (server u : State) (old new : Run) → server.begun ≡ [] → HearsOne server old u new → ⊥
none_heard server u old new none one = some_part server.parts one.answer.part one.answers.rest one.answers.part (sym one.answers.cut ∙ none)

-- one part alone has come: it is heard, and nothing is left
pub one_heard : (part : List ℕ) (server u : State) (old new : Run) → IsPart server.parts part → server.begun ≡ part →
    HearsOne server old u new → HearsPart part server old new × (u.begun ≡ [])
one_heard part server u old new is all one =
    let a = one.answers in
    let same = one_part server.parts part one.answer.part [] a.rest is a.part (append-nil part ∙ sym all ∙ a.cut) in (
      record {
        answered = one.answer.answered;
        may = subst (λ (p : List ℕ). IsAnswered server (server.parts ++ p ∷ []) one.answer.answered) (sym same.0) a.may;
        run = one.run ∙ ap (λ (p : List ℕ). step (did.Heard p one.answer.answered) old) (sym same.0);
        well = one.well;
      },
      ap (λ (s : State). s.begun) a.after ∙ after_begun one.answer.answered (record server { begun = a.rest })
          (server.parts ++ one.answer.part ∷ []) ∙ sym same.1,
    )

pub heard_alone : (part : List ℕ) (server u : State) (old mid new : Run) → IsPart server.parts part → server.begun ≡ part →
    HearsOne server old u mid → (u.begun ≡ [] → new ≡ mid) → HearsPart part server old new
heard_alone part server u old mid new is all one same =
    let heard = one_heard part server u old mid is all one in
    subst (HearsPart part server old) (sym (same heard.1)) heard.0

-- the same, or nothing was heard
pub heard_or_not : (part : List ℕ) (server u : State) (old new : Run) → IsPart server.parts part → server.begun ≡ part →
    (new ≡ old) ⊎ HearsOne server old u new → (new ≡ old) ⊎ HearsPart part server old new
heard_or_not part server u old new is all (inl same) = inl same
heard_or_not part server u old new is all (inr one) = inr (one_heard part server u old new is all one).0

-- memory was wanting
pub failed_only : {T E : Type 0} (part : List ℕ) (server : State) (old new : Run) (r : Result T E) (e : E) → r ≡ Err e →
    (new ≡ old) ⊎ HearsPart part server old new → HearsOnly part server old new r
failed_only {T} {E} part server old new r e is or = subst (λ (x : Result T E). HearsOnly part server old new x) (sym is) (record { done = tt; failed = or })

pub any_or_not : (server u : State) (old new : Run) → (new ≡ old) ⊎ HearsOne server old u new → Linked AnyStep old.clock new.clock
any_or_not server u old new (inl same) = subst (λ (r : Run). Linked AnyStep old.clock r.clock) (sym same) (linked_start AnyStep old.clock)
any_or_not server u old new (inr one) = any_heard server u old new one

pub none_or_not : (server u : State) (old new : Run) → server.begun ≡ [] → (new ≡ old) ⊎ HearsOne server old u new → new ≡ old
none_or_not server u old new none (inl same) = same
none_or_not server u old new none (inr one) = absurd (none_heard server u old new none one)

-- where no whole part stands in front, none is heard
pub nothing_or_not : (server u : State) (old new : Run) → NoPart server.parts server.begun → (new ≡ old) ⊎ HearsOne server old u new → new ≡ old
nothing_or_not server u old new none (inl same) = same
nothing_or_not server u old new none (inr one) = absurd (none one.answer.part one.answers.rest one.answers.part one.answers.cut)

-- the front of a part is none
pub no_front_part : (before : List (List ℕ)) (part : List ℕ) (count : ℕ) → IsPart before part → count < length part → NoPart before (take count part)
no_front_part before part count is less = λ other rest isp same.
    let whole : other ++ (rest ++ drop count part) ≡ part ++ [] =
    sym (append_assoc other rest (drop count part)) ∙ ap (λ (t : List ℕ). t ++ drop count part) (sym same)
    ∙ take-append-drop count part ∙ sym (append-nil part) in
    let one = one_part before other part (rest ++ drop count part) [] isp is whole in
    omega (arith, less, ap length one.0, ap length same, length_more other rest, length_taken count part)
  where
    length_more : (a b : List ℕ) → length a ≤ length (a ++ b)
    length_more [] b = omega arith
    length_more (x ∷ a) b = omega (arith, length_more a b)

    length_taken : (n : ℕ) (a : List ℕ) → length (take n a) ≤ n
    length_taken zero a = omega arith
    length_taken (suc n) [] = omega arith
    length_taken (suc n) (x ∷ a) = omega (arith, length_taken n a)

-- a part of a text is the end of it, or the front of what is awaited behind it
whole_of : (tag : Tag) (command : Command) (before : List (List ℕ)) (part : List ℕ) → IsPartOf tag command before part [] →
    IsWhole tag command (before ++ part ∷ [])
whole_of tag command before part is = record { sent = is.sent; text = is.text }

front_of : (tag : Tag) (command : Command) (before : List (List ℕ)) (part next : List ℕ) (behind : List (List ℕ)) →
    IsPartOf tag command before part (next ∷ behind) → IsFront tag command (before ++ part ∷ [])
front_of tag command before part next behind is = record {
  sent = is.sent;
  next = next;
  behind = behind;
  text =
      is.text ∙ sym (append_assoc before (part ∷ []) (next ∷ behind));
}

-- fronts of two texts are of one tag
same_tag : FirstPartsTellTags → (tag other : Tag) (command command' : Command) (before : List (List ℕ)) (part : List ℕ) →
    IsFront tag command (before ++ part ∷ []) → IsFront other command' (before ++ part ∷ []) → tag ≡ other
same_tag tells tag other command command' [] part a b = tells tag other command command' part (a.next ∷ a.behind)
    (b.next ∷ b.behind) a.sent b.sent a.text b.text
same_tag tells tag other command command' (first ∷ before) part a b =
    tells tag other command command' first ((before ++ part ∷ []) ++ a.next ∷ a.behind) ((before ++ part ∷ []) ++ b.next ∷ b.behind) a.sent b.sent a.text b.text

refusal : (p : Peer) → IsRefusal p (denied codings.Other)
refusal p = record { ending = λ same. absurd (cc same); says = record { untagged = tt; code = tt } }

module _ (no_front : NoTextIsAFront) (tag : Tag) (command : Command) (before : List (List ℕ)) (part : List ℕ) where
  abbrev pub with_part : List (List ℕ)
  with_part = before ++ part ∷ []

  -- the command that waits is the one that was sent
  pub waits_arrives : (behind : List (List ℕ)) (other : Tag) (command' : Command) (old : Clock) → IsPartOf tag command before part behind →
      IsWhole other command' with_part
      → Arrives tag command before part behind old (becomes (arrived other command' [] [] []) old)
  waits_arrives [] other command' old is whole =
      let same = one_whole other tag command' command with_part whole (whole_of tag command before part is) in
      subst (λ (t : Tag). Arrives tag command before part [] old (becomes (arrived t command' [] [] []) old)) (sym same.0)
      (subst (λ (c : Command). Arrives tag command before part [] old (becomes (arrived tag c [] [] []) old)) (sym same.1)
      (record { at = old; first = linked_start Answering old; later = linked_start Answering (becomes (arrived tag command before part []) old) }))
  waits_arrives (next ∷ behind) other command' old is whole = absurd
      (no_front other tag command' command with_part whole (front_of tag command before part next behind is))

  module _ (one_tag : FirstPartsTellTags) (s : State) (old : Clock) (server_is : old.now.outside.server ≡ s.server)
      (selected_is : old.now.outside.talk.selected ≡ s.selected) (lawful : s.muted ≡ false) (well : IsWellFormed s.server.boxes) where
    -- its answer
    abbrev pub Answers : List (List ℕ) → Answered → Type 0
    Answers behind a = Arrives tag command before part behind old (becomes (answers_as s with_part a) (becomes (comes_as with_part a) old))

    carried_arrives : Answers [] (answers.Carried tag command)
    carried_arrives =
        let t = turn_at s tag command in
        record {
          at = old;
          first = linked_start Answering old;
          later = one_step Answering (answers_as s with_part (answers.Carried tag command)) (becomes (arrived tag command before part []) old)
              (carries (record { selected = s.selected; tag = tag; command = command }) t.replies t.server t.selected
              (ap (λ (x : Option (List ℕ)). Some (record { selected = x; tag = tag; command = command })) selected_is)
              (subst (λ (x : Server). CarriesOut (record {
                selected = s.selected;
                tag = tag;
                command =
                    command;
              }) x t.replies t.server t.selected) (sym server_is)
              (plain_turn s tag command lawful (plain_case tag s.server well s.choices s.selected command))));
        }

    asked_arrives : (next : List ℕ) (behind : List (List ℕ)) → Answers (next ∷ behind) (answers.Asked tag)
    asked_arrives next behind =
        record {
          at = old;
          first = linked_start Answering old;
          later = one_step Answering (answers_as s with_part (answers.Asked tag)) (becomes (arrived tag command before part (next ∷ behind)) old)
              (goes_on (fronted tag with_part) refl refl);
        }

    refused_arrives : (next : List ℕ) (behind : List (List ℕ)) → Answers (next ∷ behind) (answers.Refused tag)
    refused_arrives next behind =
        let mid = becomes (arrived tag command before part (next ∷ behind)) old in
        record {
          at = old;
          first = linked_start Answering old;
          later = one_step Answering (answers_as s with_part (answers.Refused tag)) mid
              (refuses (fronted tag with_part) (denied codings.Other) refl refl (refusal mid.now.outside));
        }

    pub answer_arrives : (u : State) (behind : List (List ℕ)) → IsPartOf tag command before part behind → (a : Answered) →
        IsAnswered u with_part a → Answers behind a
    answer_arrives u [] is (answers.Carried other command') may =
        let same = one_whole other tag command' command with_part may (whole_of tag command before part is) in
        subst (λ (t : Tag). Answers [] (answers.Carried t command')) (sym same.0)
        (subst (λ (c : Command). Answers [] (answers.Carried tag c)) (sym same.1) carried_arrives)
    answer_arrives u (next ∷ behind) is (answers.Carried other command') may =
        absurd (no_front other tag command' command with_part may (front_of tag command before part next behind is))
    answer_arrives u [] is (answers.Asked other) may = absurd (no_front tag other command may.0 with_part (whole_of tag command before part is) may.1)
    answer_arrives u (next ∷ behind) is (answers.Asked other) may =
        subst (λ (t : Tag). Answers (next ∷ behind) (answers.Asked t))
        (same_tag one_tag tag other command may.0 before part (front_of tag command before part next behind is) may.1)
        (asked_arrives next behind)
    answer_arrives u [] is (answers.Refused other) may = absurd (no_front tag other command may.0 with_part (whole_of tag command before part is) may.2)
    answer_arrives u (next ∷ behind) is (answers.Refused other) may =
        subst (λ (t : Tag). Answers (next ∷ behind) (answers.Refused t))
        (same_tag one_tag tag other command may.0 before part (front_of tag command before part next behind is) may.2)
        (refused_arrives next behind)
    answer_arrives u [] is (answers.Bad other) may = absurd (may.0.whole tag command (whole_of tag command before part is))
    answer_arrives u (next ∷ behind) is (answers.Bad other) may = absurd (may.0.front tag command (front_of tag command before part next behind is))

-- what is awaited is what has come
none_came : (begun : Bool) (parts : List (List ℕ)) → None ≡ coming begun parts → (begun ≡ false) × (parts ≡ [])
none_came true parts is = absurd (cc is)
none_came false [] is = (refl, refl)
none_came false (x ∷ parts) is = absurd (cc is)

some_came : (begun : Bool) (parts : List (List ℕ)) (part : List ℕ) (before : List (List ℕ)) →
    Some (true, part ∷ before) ≡ coming begun parts → (begun ≡ false) × (parts ≡ part ∷ before)
some_came true parts part before is = absurd (true≢false (ap (λ (p : Bool × List (List ℕ)). p.0) (same_Some (true, part ∷ before) (false, []) is)))
some_came false [] part before is = absurd (cc is)
some_came false (x ∷ parts) part before is = (refl, sym (ap (λ (p : Bool × List (List ℕ)). p.1) (same_Some (true, part ∷ before) (true, x ∷ parts) is)))

awaited : (tag : Tag) (before parts : List (List ℕ)) (begun : Bool) (p : Peer) → Awaits tag before p →
    came p.talk.arriving ≡ coming begun parts → (begun ≡ false) × (parts ≡ before)
awaited tag [] parts begun p awaits comes = none_came begun parts (sym (ap came awaits.1) ∙ comes)
awaited tag (part ∷ before) parts begun p awaits comes = some_came begun parts part before (sym (ap came awaits.1) ∙ comes)

or_false : (b : Bool) → (b || false) ≡ true → b ≡ true
or_false true is = refl
or_false false is = is

-- others change nothing of that
pub awaits_still : (tag : Tag) (before : List (List ℕ)) (old new : Run) → OthersChange old new → Awaits tag before old.clock.now.outside →
    Awaits tag before new.clock.now.outside
awaits_still tag [] old new others awaits = (others.waiting ∙ awaits.0, ap (λ t. t.arriving) others.talk ∙ awaits.1)
awaits_still tag (part ∷ before) old new others awaits = (others.waiting ∙ awaits.0, ap (λ t. t.arriving) others.talk ∙ awaits.1)

-- it arrived, where all of it was sent, and else it may have
pub sent_or_linked : {T E : Type 0} (tag : Tag) (command : Command) (before : List (List ℕ)) (part : List ℕ) (behind : List (List ℕ))
    (old new : Clock) (r : Result T E)
    → Sent tag command before part behind old new r → Arrives tag command before part behind old new ⊎ Linked Answering old new
sent_or_linked tag command before part behind old new (Ok x) sent = inl sent.done
sent_or_linked tag command before part behind old new (Err e) sent = sent.failed

-- the link failed
pub sent_failed : {T E : Type 0} (tag : Tag) (command : Command) (before : List (List ℕ)) (part : List ℕ) (behind : List (List ℕ))
    (old new : Clock) (r : Result T E) (e : E) → r ≡ Err e
    → Arrives tag command before part behind old new ⊎ Linked Answering old new → Sent tag command before part behind old new r
sent_failed {T} {E} tag command before part behind old new r e is or =
    subst (λ (x : Result T E). Sent tag command before part behind old new x) (sym is) (record { done = tt; failed = or })

pub arrives_then : (tag : Tag) (command : Command) (before : List (List ℕ)) (part : List ℕ) (behind : List (List ℕ))
    (old mid new : Clock) → Linked Answering old mid → Arrives tag command before part behind mid new →
    Arrives tag command before part behind old new
arrives_then tag command before part behind old mid new first is =
    record { at = is.at; first = linked_then Answering old mid is.at first is.first; later = is.later }

pub sent_done : {T E : Type 0} (tag : Tag) (command : Command) (before : List (List ℕ)) (part : List ℕ) (behind : List (List ℕ))
    (old new : Clock) (r : Result T E) (x : T) → r ≡ Ok x
    → Sent tag command before part behind old new r → Arrives tag command before part behind old new
sent_done {T} {E} tag command before part behind old new r x is sent = (subst (λ (y : Result T E). Sent tag command before part behind old new y) is sent).done

-- others went before
pub after_others : (tag : Tag) (command : Command) (before : List (List ℕ)) (part : List ℕ) (behind : List (List ℕ))
    (old mid new : Clock) → Linked Answering old mid
    → Arrives tag command before part behind mid new ⊎ Linked Answering mid new → Arrives tag command before part behind old new ⊎ Linked Answering old new
after_others tag command before part behind old mid new first (inl is) = inl (arrives_then tag command before part behind old mid new first is)
after_others tag command before part behind old mid new first (inr more) = inr (linked_then Answering old mid new first more)

-- a command waits
pub waited_stands : (files : Both) (server : State) (held : Option Held) (parts : List (List ℕ)) (unfinished : ℕ) (lines : List ℕ) (received : ℕ) (r : Run)
    → Stands files server phases.On held parts unfinished lines received r → (x : Held) → unfinished ≡ 0 → IsWhole x.tag x.command (parts ++ x.part ∷ [])
    → Stands files server phases.Waiting (Some x) parts unfinished lines received (step (did.Waited x) r)
waited_stands files server held parts unfinished lines received r h x none whole = record {
  files_are = h.files_are;
  server_is = h.server_is;
  held_is = refl;
  parts_are = refl;
  counted = h.counted;
  rested = ap (λ (n : ℕ). n == 0) none;
  told = ∣ tt ∣₁;
  whole = ∣ subst (λ (b : List (List ℕ)). IsWhole x.tag x.command (b ++ x.part ∷ [])) h.parts_are whole ∣₁;
  within = h.within;
  server_fits = h.server_fits;
  selected_fits = refl;
  sound = h.sound;
  lawful = h.lawful;
  comes = refl;
  waits = ap (λ (s : Option (List ℕ)). Some (record { selected = s; tag = x.tag; command = x.command })) h.selected_fits;
}

-- all that has come was answered
pub none_unfinished : (x : Course) → x.phase ≡ phases.Hearing → x.server.begun ≡ [] → x.unfinished ≡ 0
none_unfinished x hearing none =
    let there = phase_stands x.files x.server x.phase phases.Hearing x.held x.parts x.unfinished x.lines.items x.received (run_of x) x.stands hearing in
    sym there.counted ∙ ap length none

module _ (w : Course) (on : w.phase ≡ phases.On) (tag : Tag) (command : Command) (before : List (List ℕ)) (part : List ℕ)
    (behind : List (List ℕ)) (is : IsPartOf tag command before part behind) (awaits : Awaits tag before (run_of w).clock.now.outside) where
  now : Stands w.files w.server phases.On w.held w.parts w.unfinished w.lines.items w.received (run_of w)
  now = phase_stands w.files w.server w.phase phases.On w.held w.parts w.unfinished w.lines.items w.received (run_of w) w.stands on

  stood : ((run_of w).begun ≡ false) × ((run_of w).state.parts ≡ before)
  stood = awaited tag before (run_of w).state.parts (run_of w).begun (run_of w).clock.now.outside awaits now.comes

  none_begun : w.server.begun ≡ []
  none_begun = none_long w.server.begun (now.counted ∙ zero_is w.unfinished
      (or_false (w.unfinished == 0) (subst (λ (b : Bool). ((w.unfinished == 0) || b) ≡ true) stood.0 now.rested)))

  parts_before : w.server.parts ≡ before
  parts_before = ap (λ (s : State). s.parts) now.server_is ∙ stood.1

  -- its text is cut there
  pub cut_there : TextsAreCut → IsPart w.server.parts part
  cut_there cut = subst (λ (b : List (List ℕ)). IsPart b part) (sym parts_before) (cut tag command before part behind is.sent is.text)

  pub begun_with : (bytes : List ℕ) → w.server.begun ++ bytes ≡ bytes
  begun_with bytes = ap (λ (b : List ℕ). b ++ bytes) none_begun

  -- it completes a command
  pub waits_there : NoTextIsAFront → (other : Tag) (command' : Command) → IsWhole other command' (w.parts ++ part ∷ [])
      → Arrives tag command before part behind (run_of w).clock (becomes (arrived other command' [] [] []) (run_of w).clock)
  waits_there no_front other command' whole =
      waits_arrives no_front tag command before part behind other command' (run_of w).clock is
      (subst (λ (b : List (List ℕ)). IsWhole other command' (b ++ part ∷ [])) (now.parts_are ∙ stood.1) whole)

  module _ (mid : Course) (hearing : mid.phase ≡ phases.Hearing) (run : run_of mid ≡ run_of w) where
    there : Stands mid.files mid.server phases.Hearing mid.held mid.parts mid.unfinished mid.lines.items mid.received (run_of mid)
    there = phase_stands mid.files mid.server mid.phase phases.Hearing mid.held mid.parts mid.unfinished mid.lines.items mid.received
        (run_of mid) mid.stands hearing

    same_parts : mid.server.parts ≡ w.server.parts
    same_parts = ap (λ (s : State). s.parts) there.server_is ∙ ap (λ (r : Run). r.state.parts) run ∙ sym (ap (λ (s : State). s.parts) now.server_is)

    pub cut_off : TextsAreCut → IsPart mid.server.parts part
    cut_off cut = subst (λ (b : List (List ℕ)). IsPart b part) (sym same_parts) (cut_there cut)

    -- it is answered
    pub heard_there : NoTextIsAFront → FirstPartsTellTags → (new : Run) → HearsPart part mid.server (run_of mid) new →
        Arrives tag command before part behind (run_of w).clock new.clock
    heard_there no_front one_tag new heard =
        let r = run_of w in
        let well : IsWellFormed r.state.server.boxes = subst (λ (s : Server). IsWellFormed s.boxes)
        (server_same phases.Hearing mid.server (run_of mid).state there.server_is ∙ ap (λ (x : Run). x.state.server) run) heard.well in
        let may : IsAnswered mid.server (before ++ part ∷ []) heard.answered =
        subst (λ (b : List (List ℕ)). IsAnswered mid.server (b ++ part ∷ []) heard.answered) (same_parts ∙ parts_before) heard.may in
        let arrives = answer_arrives no_front tag command before part one_tag r.state r.clock now.server_fits now.selected_fits now.lawful well
        mid.server behind is heard.answered may in
        subst (λ (x : Run). Arrives tag command before part behind r.clock x.clock) (sym (heard.run ∙ ap (step (did.Heard part heard.answered)) run))
        (subst (λ (b : List (List ℕ)). Arrives tag command before part behind r.clock
        (becomes (answers_as r.state (b ++ part ∷ []) heard.answered) (becomes (comes_as (b ++ part ∷ []) heard.answered) r.clock)))
        (sym stood.1) arrives)

    -- it is all that has come
    pub all_come : TextsAreCut → mid.server.begun ≡ w.server.begun ++ part → IsPart mid.server.parts mid.server.begun
    all_come cut begun = subst (IsPart mid.server.parts) (sym (begun ∙ begun_with part)) (cut_off cut)

    pub heard_or_linked : NoTextIsAFront → FirstPartsTellTags → (new : Run) → (new ≡ run_of mid) ⊎ HearsPart part mid.server (run_of mid) new
        → Arrives tag command before part behind (run_of w).clock new.clock ⊎ Linked Answering (run_of w).clock new.clock
    heard_or_linked no_front one_tag new (inl same) = inr (subst (λ (x : Run). Linked Answering (run_of w).clock x.clock)
        (sym (same ∙ run)) (linked_start Answering (run_of w).clock))
    heard_or_linked no_front one_tag new (inr heard) = inl (heard_there no_front one_tag new heard)
