-- How one more part of a text is answered, what is told, and the state behind it (RFC 9051, sections 2.2.1, 4.3, 5.5 and 7.1).
use Rattle.std.specs.Prelude.{◌≡◌, ◌≢◌, ℕ, List, [], ◌∷◌, ◌++◌, Option, Some, None}
use Rattle.imap_model.specs.CarriedOut.{told_in}
use Rattle.imap_model.specs.Lines.{AreLines}
use Rattle.imap_model.specs.PlainServer.{denied}
use Rattle.imap_model.specs.declared.code.Code.TheVariants as codings
use Rattle.imap_model.specs.declared.command.Command.{Command}
use Rattle.imap_model.specs.declared.ending.Ending.TheVariants as endings
use Rattle.imap_model.specs.declared.response.Response.{Response}
use Rattle.imap_model.specs.declared.response.Response.TheVariants as responses
use Rattle.mail_base.specs.declared.tag.Tag.{Tag}
use Rattle.command_texts.specs.Cutting.{IsPart}
use Rattle.command_texts.specs.HeardParts.{IsWhole, IsFront, append_of, IsNoText}
use Rattle.server_mem.specs.Hearing.{IsBad}
use Rattle.server_mem.specs.States.{State, turn_at, after_turn}
use Rattle.server_mem.specs.Texts.{bad_text, command_text, denial_text, go_text}
use Rattle.server_mem.specs.declared.outcome.Answer.{Answer}
use Rattle.server_mem.specs.declared.outcome.Answered.{Answered}
use Rattle.server_mem.specs.declared.outcome.Answered.TheVariants as answers

-- BAD under a tag, or under none
abbrev pub bad_of : Option Tag → Response
bad_of None = responses.Untagged endings.Bad codings.None
bad_of (Some tag) = responses.Done tag endings.Bad codings.None

-- the parts of a text are these, as far as they have come: they may be answered so
abbrev pub IsAnswered : State → List (List ℕ) → Answered → Type 0
IsAnswered s parts (answers.Carried tag command) = IsWhole tag command parts
IsAnswered s parts (answers.Asked tag) = (command : Command) × IsFront tag command parts
    × ((name : List ℕ) → append_of command ≡ Some name → s.choices.closed ≢ Some name)
IsAnswered s parts (answers.Refused tag) = (command : Command) × (name : List ℕ) × IsFront tag command parts
    × (append_of command ≡ Some name) × (s.choices.closed ≡ Some name)
IsAnswered s parts (answers.Bad tag) = IsNoText parts × IsBad parts (bad_of tag)

-- what is told
abbrev pub told_as : State → Answered → List Response
told_as s (answers.Carried tag command) = told_in tag (turn_at s tag command).replies
told_as s (answers.Asked tag) = responses.Go ∷ []
told_as s (answers.Refused tag) = told_in tag (denied codings.Other)
told_as s (answers.Bad tag) = bad_of tag ∷ []

-- the state behind it
abbrev pub after_as : State → List (List ℕ) → Answered → State
after_as s parts (answers.Carried tag command) = record (after_turn s (turn_at s tag command)) { parts = [] }
after_as s parts (answers.Asked tag) = record s { parts = parts }
after_as s parts (answers.Refused tag) = record s { parts = [] }
after_as s parts (answers.Bad tag) = record s { parts = [] }

-- the bytes that tell it
abbrev pub answered_text : (s : State) (parts : List (List ℕ)) (a : Answered) → IsAnswered s parts a → List ℕ
answered_text s parts (answers.Carried tag command) may = command_text s tag command
answered_text s parts (answers.Asked tag) may = go_text s tag
answered_text s parts (answers.Refused tag) may = denial_text s tag
answered_text s parts (answers.Bad tag) may = bad_text parts (bad_of tag) may.1

-- the parts that have come are answered, and these lines tell it
pub record AnswersParts (s : State) (answer : Answer) (u : State) : Type 0 where
  pub may : IsAnswered s s.parts answer.answered
  pub after : u ≡ after_as s s.parts answer.answered
  pub lines : AreLines (told_as s answer.answered) answer.lines.items
  pub text : answer.lines.items ≡ answered_text s s.parts answer.answered may

-- a part was cut off the front of what has come, and the text was answered that it belongs to
pub record IsAnswer (s : State) (answer : Answer) (u : State) : Type 0 where
  pub rest : List ℕ
  pub cut : s.begun ≡ answer.part ++ rest
  pub part : IsPart s.parts answer.part
  pub may : IsAnswered s (s.parts ++ answer.part ∷ []) answer.answered
  pub after : u ≡ after_as (record s { begun = rest }) (s.parts ++ answer.part ∷ []) answer.answered
  pub lines : AreLines (told_as s answer.answered) answer.lines.items
  pub text : answer.lines.items ≡ answered_text s (s.parts ++ answer.part ∷ []) answer.answered may
