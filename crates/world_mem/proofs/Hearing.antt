-- A part that was answered.
use Rattle.std.proofs.Common.{◌≡◌, ◌+◌, ◌-◌, ◌==◌, ◌||◌, ℕ, Bool, true, false, List, [], ◌∷◌, ◌++◌, length, Option, Some, None, refl, sym}
use Rattle.std.proofs.Common.{◌∙◌, ap, subst, arith, length-append}
use Rattle.std.proofs.Math.Logic.{∥∥₁_elim}
use Rattle.std.proofs.lemmas.List.{append_assoc}
use Rattle.imap_model.specs.Lines.{AreLines}
use Rattle.imap_model.specs.Talking.{Peer}
use Rattle.imap_model.specs.declared.response.Response.{Response}
use Rattle.server_mem.specs.Answered.{IsAnswer, after_as, told_as}
use Rattle.server_mem.specs.States.{State, turn_at, after_turn, disconnected}
use Rattle.server_mem.specs.declared.outcome.Answer.{Answer}
use Rattle.server_mem.specs.declared.outcome.Answered.{Answered}
use Rattle.server_mem.specs.declared.outcome.Answered.TheVariants as answers
use Rattle.world_mem.specs.Both.{Both}
use Rattle.world_mem.specs.Running.{Run, step, waiting_of, comes_as, answers_as}
use Rattle.world_mem.specs.Standing.{Stands, came, coming, kept_as}
use Rattle.world_mem.specs.declared.course.Phase.{Phase}
use Rattle.world_mem.specs.declared.course.Phase.TheVariants as phases
use Rattle.world_mem.specs.declared.did.Did.TheVariants as did
use Rattle.world_mem.specs.declared.did.Held.{Held}

-- lines, and others behind them
pub lines_then : (told later : List Response) (front back : List ℕ) → AreLines told front → AreLines later back → AreLines (told ++ later) (front ++ back)
lines_then [] later front back a b = subst (λ (t : List ℕ). AreLines later (t ++ back)) (sym a) b
lines_then (r ∷ told) later front back (line, rest, spelled, is, a) b =
    (line, rest ++ back, spelled, ap (λ (t : List ℕ). t ++ back) is ∙ append_assoc line (13 ∷ 10 ∷ rest) back, lines_then told later rest back a b)

pub known : {A B : Type 0} → ∥ A ∥₁ → (A → B) → ∥ B ∥₁
known h f = ∥∥₁_elim h (hlevel) (λ a. ∣ f a ∣₁)

-- all of a state but the bytes that aren't a whole part
abbrev pub quiet : State → State
quiet s = record s { begun = [] }

after_seen : (a : Answered) (s t : State) (rest : List ℕ) (parts : List (List ℕ)) → quiet s ≡ quiet t →
    quiet (after_as (record s { begun = rest }) parts a) ≡ quiet (after_as t parts a)
after_seen (answers.Carried tag command) s t rest parts is = ap (λ (x : State). record (after_turn x (turn_at x tag command)) { parts = []; begun = [] }) is
after_seen (answers.Asked tag) s t rest parts is = ap (λ (x : State). record x { parts = parts }) is
after_seen (answers.Refused tag) s t rest parts is = ap (λ (x : State). record x { parts = [] }) is
after_seen (answers.Bad tag) s t rest parts is = ap (λ (x : State). record x { parts = [] }) is

after_parts : (a : Answered) (s : State) (parts : List (List ℕ)) → (after_as s parts a).parts ≡ kept_as a parts
after_parts (answers.Carried tag command) s parts = refl
after_parts (answers.Asked tag) s parts = refl
after_parts (answers.Refused tag) s parts = refl
after_parts (answers.Bad tag) s parts = refl

pub after_begun : (a : Answered) (s : State) (parts : List (List ℕ)) → (after_as s parts a).begun ≡ s.begun
after_begun (answers.Carried tag command) s parts = refl
after_begun (answers.Asked tag) s parts = refl
after_begun (answers.Refused tag) s parts = refl
after_begun (answers.Bad tag) s parts = refl

after_failed : (a : Answered) (s : State) (parts : List (List ℕ)) → (after_as s parts a).failed ≡ s.failed
after_failed (answers.Carried tag command) s parts = refl
after_failed (answers.Asked tag) s parts = refl
after_failed (answers.Refused tag) s parts = refl
after_failed (answers.Bad tag) s parts = refl

after_muted : (a : Answered) (s : State) (parts : List (List ℕ)) → (after_as s parts a).muted ≡ s.muted
after_muted (answers.Carried tag command) s parts = refl
after_muted (answers.Asked tag) s parts = refl
after_muted (answers.Refused tag) s parts = refl
after_muted (answers.Bad tag) s parts = refl

told_seen : (a : Answered) (s t : State) → quiet s ≡ quiet t → told_as s a ≡ told_as t a
told_seen (answers.Carried tag command) s t is = ap (λ (x : State). told_as x (answers.Carried tag command)) is
told_seen (answers.Asked tag) s t is = refl
told_seen (answers.Refused tag) s t is = refl
told_seen (answers.Bad tag) s t is = refl

-- what the answer makes of the connection
answer_told : (a : Answered) (s : State) (parts : List (List ℕ)) (p : Peer) → (answers_as s parts a p).talk.told ≡ p.talk.told ++ told_as s a
answer_told (answers.Carried tag command) s parts p = refl
answer_told (answers.Asked tag) s parts p = refl
answer_told (answers.Refused tag) s parts p = refl
answer_told (answers.Bad tag) s parts p = refl

come_told : (a : Answered) (parts : List (List ℕ)) (p : Peer) → (comes_as parts a p).talk.told ≡ p.talk.told
come_told (answers.Carried tag command) parts p = refl
come_told (answers.Asked tag) parts p = refl
come_told (answers.Refused tag) parts p = refl
come_told (answers.Bad tag) parts p = refl

answer_server : (a : Answered) (s : State) (parts : List (List ℕ)) (p : Peer) → p.server ≡ s.server →
    (answers_as s parts a (comes_as parts a p)).server ≡ (after_as s parts a).server
answer_server (answers.Carried tag command) s parts p is = refl
answer_server (answers.Asked tag) s parts p is = is
answer_server (answers.Refused tag) s parts p is = is
answer_server (answers.Bad tag) s parts p is = is

answer_selected : (a : Answered) (s : State) (parts : List (List ℕ)) (p : Peer) → p.talk.selected ≡ s.selected →
    (answers_as s parts a (comes_as parts a p)).talk.selected ≡ (after_as s parts a).selected
answer_selected (answers.Carried tag command) s parts p is = refl
answer_selected (answers.Asked tag) s parts p is = is
answer_selected (answers.Refused tag) s parts p is = is
answer_selected (answers.Bad tag) s parts p is = is

answer_waits : (a : Answered) (s : State) (parts : List (List ℕ)) (p : Peer) → p.waiting ≡ None → (answers_as s parts a (comes_as parts a p)).waiting ≡ None
answer_waits (answers.Carried tag command) s parts p is = refl
answer_waits (answers.Asked tag) s parts p is = is
answer_waits (answers.Refused tag) s parts p is = is
answer_waits (answers.Bad tag) s parts p is = is

coming_more : (parts : List (List ℕ)) (part : List ℕ) → coming false (parts ++ part ∷ []) ≡ Some (true, parts ++ part ∷ [])
coming_more [] part = refl
coming_more (x ∷ parts) part = refl

answer_comes : (a : Answered) (s : State) (before : List (List ℕ)) (part : List ℕ) (p : Peer)
    → came (answers_as s (before ++ part ∷ []) a (comes_as (before ++ part ∷ []) a p)).talk.arriving ≡ coming false (after_as s (before ++ part ∷ []) a).parts
answer_comes (answers.Carried tag command) s before part p = refl
answer_comes (answers.Asked tag) s before part p = sym (coming_more before part)
answer_comes (answers.Refused tag) s before part p = refl
answer_comes (answers.Bad tag) s before part p = refl

none_waits : (held : Option Held) (s : State) → None ≡ held → waiting_of s held ≡ None
none_waits held s is = sym (ap (waiting_of s) is)

module _ (files : Both) (server : State) (held : Option Held) (parts : List (List ℕ)) (unfinished : ℕ) (lines : List ℕ) (received : ℕ)
    (r : Run) (h : Stands files server phases.Hearing held parts unfinished lines received r) where
  pub heard_stands : (answer : Answer) (u : State) (parts' : List (List ℕ)) (unfinished' : ℕ) (lines' : List ℕ) → IsAnswer server answer u
      → parts' ≡ kept_as answer.answered (parts ++ answer.part ∷ []) → unfinished' + length answer.part ≡ unfinished → lines' ≡ lines ++ answer.lines.items
      → Stands files u phases.Hearing held parts' unfinished' lines' received (step (did.Heard answer.part answer.answered) r)
  heard_stands answer u parts' unfinished' lines' is kept less more = record {
    files_are = h.files_are;
    server_is = ap quiet is.after ∙ after_seen a server r.state is.rest (server.parts ++ answer.part ∷ []) h.server_is
        ∙ ap (λ (x : List (List ℕ)). quiet (after_as r.state (x ++ answer.part ∷ []) a)) same_parts;
    held_is = h.held_is;
    parts_are = kept ∙ ap (λ (x : List (List ℕ)). kept_as a (x ++ answer.part ∷ [])) h.parts_are
        ∙ sym (after_parts a r.state (r.state.parts ++ answer.part ∷ []));
    counted = omega (
      arith,
      ap (λ (x : State). length x.begun) is.after,
      ap length (after_begun a (record server { begun = is.rest }) (server.parts ++ answer.part ∷ [])),
      h.counted,
      ap length is.cut,
      length-append answer.part is.rest,
      less,
    );
    rested = refl;
    told = known h.told (λ (so_far : AreLines told lines). all so_far);
    whole = ∣ tt ∣₁;
    within = omega (arith, h.within, ap length more, length-append lines answer.lines.items);
    server_fits = answer_server a r.state now p h.server_fits;
    selected_fits = answer_selected a r.state now p h.selected_fits;
    waits = answer_waits a r.state now p (h.waits ∙ none_waits r.held r.state h.held_is) ∙ sym (none_waits r.held (after_as r.state now a) h.held_is);
    comes = answer_comes a r.state r.state.parts answer.part p;
    sound = after_failed a r.state now ∙ h.sound;
    lawful = after_muted a r.state now ∙ h.lawful;
  }
    where
      a : Answered
      a = answer.answered

      p : Peer
      p = r.clock.now.outside

      told : List Response
      told = p.talk.told

      now : List (List ℕ)
      now = r.state.parts ++ answer.part ∷ []

      same_parts : server.parts ≡ r.state.parts
      same_parts = ap (λ (x : State). x.parts) h.server_is

      grown : (answers_as r.state now a (comes_as now a p)).talk.told ≡ told ++ told_as server a
      grown = answer_told a r.state now (comes_as now a p) ∙ ap (λ (x : List Response). x ++ told_as r.state a) (come_told a now p)
          ∙ ap (λ (x : List Response). told ++ x) (sym (told_seen a server r.state h.server_is))

      all : AreLines told lines → AreLines (answers_as r.state now a (comes_as now a p)).talk.told lines'
      all so_far = subst (λ (x : List Response). AreLines x lines') (sym grown)
          (subst (AreLines (told ++ told_as server a)) (sym more) (lines_then told
          (told_as server a) lines answer.lines.items so_far is.lines))

  -- memory was wanting for what it told
  pub heard_lost : (answer : Answer) (u : State) (parts' : List (List ℕ)) (unfinished' : ℕ) (lines' : List ℕ) → IsAnswer server answer u →
      unfinished' + length answer.part ≡ unfinished
      → Stands files u phases.Off held parts' unfinished' lines' 0 (step (did.Heard answer.part answer.answered) r)
  heard_lost answer u parts' unfinished' lines' is less =
      let whole = heard_stands answer u (kept_as answer.answered (parts ++ answer.part ∷ [])) unfinished' (lines ++ answer.lines.items) is refl less refl in
      record {
        files_are = whole.files_are;
        server_is = ap disconnected whole.server_is;
        held_is = whole.held_is;
        parts_are = refl;
        counted = refl;
        whole = ∣ tt ∣₁;
        rested = refl;
        told = ∣ tt ∣₁;
        within = omega arith;
        server_fits = whole.server_fits;
        selected_fits = refl;
        waits = whole.waits;
        sound = refl;
        comes = refl;
        lawful = whole.lawful;
      }

-- what is left behind a part
pub left_behind : (server : State) (answer : Answer) (u : State) (unfinished : ℕ) (part : List ℕ) → IsAnswer server answer u →
    length server.begun ≡ unfinished → part ≡ answer.part → (unfinished - length part) + length answer.part ≡ unfinished
left_behind server answer u unfinished part is counted same = omega (arith, counted, ap length is.cut, length-append answer.part is.rest, ap length same)

pub same_stands : (files : Both) (server server' : State) (phase : Phase) (held : Option Held) (parts : List (List ℕ)) (unfinished : ℕ)
    (lines : List ℕ) (received : ℕ) (r r' : Run)
    → Stands files server phase held parts unfinished lines received r → server' ≡ server → r' ≡ r →
    Stands files server' phase held parts unfinished lines received r'
same_stands files server server' phase held parts unfinished lines received r r' h is run =
    subst (λ (x : Run). Stands files server' phase held parts unfinished lines received x) (sym run)
    (subst (λ (x : State). Stands files x phase held parts unfinished lines received r) (sym is) h)

pub phase_stands : (files : Both) (server : State) (phase phase' : Phase) (held : Option Held) (parts : List (List ℕ)) (unfinished : ℕ)
    (lines : List ℕ) (received : ℕ) (r : Run)
    → Stands files server phase held parts unfinished lines received r → phase ≡ phase' → Stands files server phase' held parts unfinished lines received r
phase_stands files server phase phase' held parts unfinished lines received r h is =
    subst (λ (x : Phase). Stands files server x held parts unfinished lines received r) is h

or_true : (b : Bool) → (b || true) ≡ true
or_true true = refl
or_true false = refl

-- bytes that aren't a whole part stay
pub began_stands : (files : Both) (server : State) (held : Option Held) (parts : List (List ℕ)) (unfinished : ℕ) (lines : List ℕ) (received : ℕ) (r : Run)
    → Stands files server phases.Hearing held parts unfinished lines received r →
    Stands files server phases.On held parts unfinished lines received (step did.Began r)
began_stands files server held parts unfinished lines received r h = record {
  files_are = h.files_are;
  server_is = h.server_is;
  held_is = h.held_is;
  parts_are = h.parts_are;
  counted = h.counted;
  rested = or_true (unfinished == 0);
  told = h.told;
  whole = ∣ tt ∣₁;
  within = h.within;
  server_fits = h.server_fits;
  selected_fits = h.selected_fits;
  waits = h.waits;
  sound = h.sound;
  comes = refl;
  lawful = h.lawful;
}
