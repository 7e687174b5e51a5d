-- One part is answered, of what has come.
use Rattle.std.specs.Prelude.{◌≡◌, ◌⊎◌, ℕ, Bool, true, false, List, [], ◌∷◌, ◌++◌, take, Result, OnOk, OnErr}
use Rattle.imap_model.specs.declared.command.Command.{Command}
use Rattle.mail_base.specs.declared.tag.Tag.{Tag}
use Rattle.server_mem.specs.declared.outcome.Answered.{Answered}
use Rattle.server_mem.specs.declared.outcome.Answered.TheVariants as answers
use Rattle.imap_model.specs.WellFormed.{IsWellFormed}
use Rattle.server_mem.specs.Answered.{IsAnswer, IsAnswered}
use Rattle.command_texts.specs.Cutting.{NoPart}
use Rattle.server_mem.specs.Hearing.{with_bytes}
use Rattle.server_mem.specs.States.{State}
use Rattle.server_mem.specs.declared.outcome.Answer.{Answer}
use Rattle.world_mem.specs.Running.{Run, step}
use Rattle.world_mem.specs.declared.did.Did.TheVariants as did

pub record HearsOne (server : State) (old : Run) (server' : State) (new : Run) : Type 0 where
  pub answer : Answer
  pub answers : IsAnswer server answer server'
  pub run : new ≡ step (did.Heard answer.part answer.answered) old
  pub well : IsWellFormed server.server.boxes

-- this part alone is answered
pub record HearsPart (part : List ℕ) (server : State) (old new : Run) : Type 0 where
  pub answered : Answered
  pub may : IsAnswered server (server.parts ++ part ∷ []) answered
  pub run : new ≡ step (did.Heard part answered) old
  pub well : IsWellFormed server.server.boxes

-- so it is, or memory was wanting before it or behind it
pub record HearsOnly {T E : Type 0} (part : List ℕ) (server : State) (old new : Run) (result : Result T E) : Type 0 where
  pub done : OnOk result (HearsPart part server old new)
  pub failed : OnErr result ((new ≡ old) ⊎ HearsPart part server old new)

-- a command was carried out
abbrev pub is_carried : Answered → Bool
is_carried (answers.Carried tag command) = true
is_carried (answers.Asked tag) = false
is_carried (answers.Refused tag) = false
is_carried (answers.Bad tag) = false

-- no command is carried out: no part has come, or one that doesn't end a text
pub record AnswersElse (server : State) : Type 0 where
  pub answer : Answer
  pub after : State
  pub is : IsAnswer server answer after
  pub other : is_carried answer.answered ≡ false

abbrev pub CarriesNone : State → Type 0
CarriesNone server = NoPart server.parts server.begun ⊎ AnswersElse server

-- that part ends the text of a command, which is carried out
pub record CarriesOne (server server' : State) : Type 0 where
  pub answer : Answer
  pub tag : Tag
  pub command : Command
  pub is : IsAnswer server answer server'
  pub carried : answer.answered ≡ answers.Carried tag command

-- whole parts at the front of what has come are answered one by one
pub data HearsParts (s : State) (r : Run) : State → Run → Type 0 where
  stops : HearsParts s r s r
  hears : {t u : State} {q v : Run} → HearsParts s r t q → HearsOne t q u v → HearsParts s r u v

-- all of them, so that no whole part is left
pub record HearsAll (s : State) (old : Run) (u : State) (new : Run) : Type 0 where
  pub parts : HearsParts s old u new
  pub rest : NoPart u.parts u.begun

-- bytes that aren't a whole part are remembered
abbrev pub left_over : List ℕ → Run → Run
left_over [] r = r
left_over (byte ∷ bytes) r = step did.Began r

-- these bytes come behind what came before
pub record HearsBytes (bytes : List ℕ) (s : State) (old : Run) (u : State) (new : Run) : Type 0 where
  pub mid : Run
  pub all : HearsAll (with_bytes bytes s) old u mid
  pub left : new ≡ left_over u.begun mid

-- some front of these bytes comes, and some whole parts are answered
pub record HearsSome (bytes : List ℕ) (s : State) (old new : Run) : Type 0 where
  pub count : ℕ
  pub after : State
  pub parts : HearsParts (with_bytes (take count bytes) s) old after new
