-- How one more part is answered: each answer is one of the server's, and a step of hearing.
use Rattle.std.proofs.Common.{◌≡◌, ℕ, ◌<◌, List, [], ◌∷◌, ◌++◌, Option, refl, sym, ◌∙◌, ap, subst, take, drop, take-append-drop, length, length-append, arith}
use Rattle.std.proofs.lemmas.List.{append-nil}
use Rattle.std.specs.List.{AllByRecursion}
use Rattle.imap_model.specs.CarriedOut.{told_in}
use Rattle.imap_model.specs.Lines.{AreLines}
use Rattle.imap_model.specs.declared.command.Command.{Command}
use Rattle.imap_model.specs.declared.response.Response.{Response}
use Rattle.imap_model.specs.declared.server.Server.{Server}
use Rattle.imap_model.specs.PlainServer.{Turn}
use Rattle.mail_base.specs.declared.tag.Tag.{Tag}
use Rattle.server_mem.specs.Answered.{AnswersParts, IsAnswer, IsAnswered, after_as, answered_text, told_as}
use Rattle.command_texts.specs.Cutting.{IsPart}
use Rattle.server_mem.specs.Falling.{Tells}
use Rattle.command_texts.specs.HeardParts.{IsWhole}
use Rattle.server_mem.specs.Hearing.{Answers, carries, goes_on, refuses, says_bad, Steps, stops, hears}
use Rattle.server_mem.specs.States.{State, plain_at, turn_at, after_turn}
use Rattle.server_mem.specs.Texts.{answer_text, steps_text}
use Rattle.response_lines.specs.Tellable.{AreTellable, IsAtomic}
use Rattle.response_lines.specs.Written.{WritesLines}
use Rattle.server_mem.specs.declared.outcome.Answer.{Answer}
use Rattle.server_mem.specs.declared.outcome.Answered.{Answered}
use Rattle.server_mem.specs.declared.outcome.Answered.TheVariants as answers
use Rattle.response_lines.proofs.TurnTells.{told_tellable}
use Rattle.server_mem.proofs.Muting.{muted_tellable}

-- what is written behind nothing
pub lines_alone : (told : List Response) (front bytes : List ℕ) → front ≡ [] → WritesLines told front bytes → AreLines told bytes
lines_alone told front bytes none w = subst (AreLines told) (sym (w.grown ∙ ap (λ (l : List ℕ). l ++ w.added) none)) w.lines

pub command_tellable : (s : State) (tag : Tag) (command : Command) (parts : List (List ℕ)) (told : List Response) →
    AllByRecursion IsAtomic s.choices.offers → IsWhole tag command parts
    → told ≡ told_in tag (turn_at s tag command).replies → AreTellable told
command_tellable s tag command parts told offers whole is = subst AreTellable (sym is)
    (muted_tellable s.muted tag (plain_at s tag command).replies (told_tellable s.choices s.selected tag command s.server offers whole.sent.writable.tagged))

-- the state when a part is cut off
abbrev pub cut_at : ℕ → State → State
cut_at end s = record s { parts = s.parts ++ take end s.begun ∷ []; begun = drop end s.begun }

-- the parts and the bytes that a state holds change no answer
may_from : (end : ℕ) (s : State) (parts : List (List ℕ)) (a : Answered) → IsAnswered (cut_at end s) parts a → IsAnswered s parts a
may_from end s parts (answers.Carried tag command) may = may
may_from end s parts (answers.Asked tag) may = may
may_from end s parts (answers.Refused tag) may = may
may_from end s parts (answers.Bad tag) may = may

told_from : (end : ℕ) (s : State) (a : Answered) → told_as (cut_at end s) a ≡ told_as s a
told_from end s (answers.Carried tag command) = refl
told_from end s (answers.Asked tag) = refl
told_from end s (answers.Refused tag) = refl
told_from end s (answers.Bad tag) = refl

after_from : (end : ℕ) (s : State) (parts : List (List ℕ)) (a : Answered) →
    after_as (cut_at end s) parts a ≡ after_as (record s { begun = drop end s.begun }) parts a
after_from end s parts (answers.Carried tag command) = refl
after_from end s parts (answers.Asked tag) = refl
after_from end s parts (answers.Refused tag) = refl
after_from end s parts (answers.Bad tag) = refl

text_from : (end : ℕ) (s : State) (parts : List (List ℕ)) (a : Answered) (may : IsAnswered (cut_at end s) parts a) →
    answered_text (cut_at end s) parts a may ≡ answered_text s parts a (may_from end s parts a may)
unfolding may_from
text_from end s parts (answers.Carried tag command) may = refl
text_from end s parts (answers.Asked tag) may = refl
text_from end s parts (answers.Refused tag) may = refl
text_from end s parts (answers.Bad tag) may = refl

-- a part that was cut off is answered
answer_cut : (end : ℕ) (s u : State) (part : List ℕ) (a : Answered) (lines : List ℕ) → part ≡ take end s.begun → IsPart s.parts (take end s.begun)
    → (may : IsAnswered (cut_at end s) (cut_at end s).parts a) → u ≡ after_as (cut_at end s) (cut_at end s).parts a
    → AreLines (told_as (cut_at end s) a) lines → lines ≡ answered_text (cut_at end s) (cut_at end s).parts a may
    → (s.begun ≡ part ++ drop end s.begun) × IsPart s.parts part × (may : IsAnswered s (s.parts ++ part ∷ []) a)
    × (u ≡ after_as (record s { begun = drop end s.begun }) (s.parts ++ part ∷ []) a) × AreLines (told_as s a) lines
    × (lines ≡ answered_text s (s.parts ++ part ∷ []) a may)
answer_cut end s u part a lines is cuts may after told text =
    let whole : List (List ℕ) = s.parts ++ take end s.begun ∷ [] in
    subst (λ (p : List ℕ). (s.begun ≡ p ++ drop end s.begun) × IsPart s.parts p × (may : IsAnswered s (s.parts ++ p ∷ []) a)
    × (u ≡ after_as (record s { begun = drop end s.begun }) (s.parts ++ p ∷ []) a) × AreLines (told_as s a) lines
    × (lines ≡ answered_text s (s.parts ++ p ∷ []) a may)) (sym is) (
      sym (take-append-drop end s.begun),
      cuts,
      may_from end s whole a may,
      after ∙ after_from end s whole a,
      subst (λ (l : List Response). AreLines l lines) (told_from end s a) told,
      text ∙ text_from end s whole a may,
    )

pub is_answer : (end : ℕ) (s u : State) (answer : Answer) → answer.part ≡ take end s.begun → IsPart s.parts (take end s.begun) →
    AnswersParts (cut_at end s) answer u → IsAnswer s answer u
is_answer end s u answer is cuts of =
    let all = answer_cut end s u answer.part answer.answered answer.lines.items is cuts of.may of.after of.lines of.text in
    record { rest = drop end s.begun; cut = all.0; part = all.1; may = all.2; after = all.3; lines = all.4; text = all.5 }

-- it is one of the server's answers
answers_so : (s : State) (parts : List (List ℕ)) (a : Answered) → IsAnswered s parts a → Answers s parts (told_as s a) (after_as s parts a)
answers_so s parts (answers.Carried tag command) may = carries tag command may
answers_so s parts (answers.Asked tag) may = goes_on tag may.0 may.1 may.2
answers_so s parts (answers.Refused tag) may = refuses tag may.0 may.1 may.2 may.3 may.4
answers_so s parts (answers.Bad tag) may = says_bad _ may.0 may.1

may_at : (rest : List ℕ) (s : State) (parts : List (List ℕ)) (a : Answered) → IsAnswered s parts a → IsAnswered (record s { begun = rest }) parts a
may_at rest s parts (answers.Carried tag command) may = may
may_at rest s parts (answers.Asked tag) may = may
may_at rest s parts (answers.Refused tag) may = may
may_at rest s parts (answers.Bad tag) may = may

told_at : (rest : List ℕ) (s : State) (a : Answered) → told_as (record s { begun = rest }) a ≡ told_as s a
told_at rest s (answers.Carried tag command) = refl
told_at rest s (answers.Asked tag) = refl
told_at rest s (answers.Refused tag) = refl
told_at rest s (answers.Bad tag) = refl

text_at : (rest : List ℕ) (s : State) (parts : List (List ℕ)) (a : Answered) (may : IsAnswered s parts a) → answered_text s parts a may
    ≡ answer_text (record s { begun = rest }) parts (told_as (record s { begun = rest }) a) (after_as (record s { begun = rest }) parts a)
    (answers_so (record s { begun = rest }) parts a (may_at rest s parts a may))
unfolding answers_so may_at
text_at rest s parts (answers.Carried tag command) may = refl
text_at rest s parts (answers.Asked tag) may = refl
text_at rest s parts (answers.Refused tag) may = refl
text_at rest s parts (answers.Bad tag) may = refl

-- and a step of hearing
pub answer_told : (s u : State) (answer : Answer) → IsAnswer s answer u → Tells s answer.lines.items u
answer_told s u answer is =
    let a : Answered = answer.answered in
    let bytes : List ℕ = answer.lines.items in
    let parts : List (List ℕ) = s.parts ++ answer.part ∷ [] in
    let held : State = record s { begun = is.rest } in
    let told : List Response = told_as s a in
    let one : (x : Answers held parts told u) × (bytes ≡ answer_text held parts told u x) =
    subst (λ (t : State). (x : Answers held parts told t) × (bytes ≡ answer_text held parts told t x)) (sym is.after)
    (subst (λ (l : List Response). (x : Answers held parts l (after_as held parts a)) × (bytes ≡ answer_text held parts l (after_as held parts a) x))
    (told_at is.rest s a) (answers_so held parts a (may_at is.rest s parts a is.may), is.text ∙ text_at is.rest s parts a is.may)) in
    let all : (x : Steps s told u) × (bytes ≡ steps_text s told u x) =
    subst (λ (l : List Response). (x : Steps s l u) × (bytes ≡ steps_text s l u x)) (append-nil told) (
      hears answer.part is.rest is.cut is.part one.0 stops,
      one.1 ∙ sym (append-nil (answer_text held parts told u one.0)),
    ) in
    record { told = told; steps = all.0; lines = is.lines; text = all.1 }

-- what is left behind it
begun_as : (s : State) (parts : List (List ℕ)) (a : Answered) → (after_as s parts a).begun ≡ s.begun
begun_as s parts (answers.Carried tag command) = refl
begun_as s parts (answers.Asked tag) = refl
begun_as s parts (answers.Refused tag) = refl
begun_as s parts (answers.Bad tag) = refl

pub less_behind : (s u : State) (answer : Answer) → IsAnswer s answer u → length u.begun < length s.begun
less_behind s u answer is =
    let left : u.begun ≡ is.rest = ap (λ (t : State). t.begun) is.after
    ∙ begun_as (record s { begun = is.rest }) (s.parts ++ answer.part ∷ []) answer.answered in
    let part : IsPart s.parts answer.part = is.part in
    omega (
      arith,
      ap length left,
      ap length is.cut,
      length-append answer.part is.rest,
      ap length part.text,
      length-append (part.octets ++ part.line) (13 ∷ 10 ∷ []),
      length-append part.octets part.line,
    )

-- a turn's server and selection, entered
pub entered : (s u : State) (server : Server) (selected : Option (List ℕ)) (turn : Turn) → server ≡ turn.server → selected ≡ turn.selected
    → u ≡ record s { server = server; selected = selected } → u ≡ after_turn s turn
entered s u server selected turn one two is =
    is ∙ ap (λ (t : Server). record s { server = t; selected = selected }) one
    ∙ ap (λ (o : Option (List ℕ)). record s { server = turn.server; selected = o }) two

-- what has come of a text is dropped
abbrev pub dropped : State → State
dropped s = record s { parts = [] }

-- a part was cut off
pub some_parts : (s : State) (end : ℕ) → 0 < length (cut_at end s).parts
some_parts s end = omega (arith, length-append s.parts (take end s.begun ∷ []))
