-- What the server does and tells as bytes come, in whatever pieces they come (RFC 9051, sections 2.2.1, 4.3, 5.5 and 7.1).
use Rattle.std.specs.Prelude.{◌≡◌, ◌≢◌, ℕ, true, List, [], ◌∷◌, ◌++◌, Some}
use Rattle.imap_model.specs.CarriedOut.{told_in}
use Rattle.imap_model.specs.PlainServer.{denied}
use Rattle.imap_model.specs.Tagged.{NamesTag}
use Rattle.imap_model.specs.declared.code.Code.TheVariants as codings
use Rattle.imap_model.specs.declared.command.Command.{Command}
use Rattle.imap_model.specs.declared.ending.Ending.TheVariants as endings
use Rattle.imap_model.specs.declared.response.Response.{Response}
use Rattle.imap_model.specs.declared.response.Response.TheVariants as responses
use Rattle.mail_base.specs.declared.tag.Tag.{Tag}
use Rattle.command_texts.specs.Cutting.{IsPart, NoPart}
use Rattle.command_texts.specs.FirstWord.{IsTagged}
use Rattle.command_texts.specs.HeardParts.{IsWhole, IsFront, IsNoText, append_of}
use Rattle.server_mem.specs.States.{State, turn_at, after_turn}

-- BAD, with the tag of the text where it has one (RFC 9051, section 7.1.3)
pub data IsBad (parts : List (List ℕ)) : Response → Type 0 where
  tagged : (word : List ℕ) (tag : Tag) → IsTagged parts word → NamesTag word tag → IsBad parts (responses.Done tag endings.Bad codings.None)
  untagged : ((word : List ℕ) → IsTagged parts word → ⊥) → IsBad parts (responses.Untagged endings.Bad codings.None)

-- What one more part brings, the parts up to it being these: a command that is carried out, the request for the next part,
-- a NO in place of it for an APPEND to the closed mailbox, or BAD.
pub data Answers (s : State) (parts : List (List ℕ)) : List Response → State → Type 0 where
  carries : (tag : Tag) (command : Command) → IsWhole tag command parts
      → Answers s parts (told_in tag (turn_at s tag command).replies) (record (after_turn s (turn_at s tag command)) { parts = [] })
  goes_on : (tag : Tag) (command : Command) → IsFront tag command parts → ((name : List ℕ) → append_of command ≡ Some name → s.choices.closed ≢ Some name)
      → Answers s parts (responses.Go ∷ []) (record s { parts = parts })
  refuses : (tag : Tag) (command : Command) (name : List ℕ) → IsFront tag command parts → append_of command ≡ Some name → s.choices.closed ≡ Some name
      → Answers s parts (told_in tag (denied codings.Other)) (record s { parts = [] })
  says_bad : (bad : Response) → IsNoText parts → IsBad parts bad → Answers s parts (bad ∷ []) (record s { parts = [] })

-- whole parts at the front of what has come are answered one by one
pub data Steps : State → List Response → State → Type 0 where
  stops : {s : State} → Steps s [] s
  hears : {s t u : State} {told later : List Response} (part rest : List ℕ) → s.begun ≡ part ++ rest → IsPart s.parts part
      → Answers (record s { begun = rest }) (s.parts ++ part ∷ []) told t → Steps t later u → Steps s (told ++ later) u

abbrev pub with_bytes : List ℕ → State → State
with_bytes bytes s = record s { begun = s.begun ++ bytes }

-- these bytes come: each whole part is answered, and what isn't whole is kept
pub record Hears (s : State) (bytes : List ℕ) (told : List Response) (u : State) : Type 0 where
  pub steps : Steps (with_bytes bytes s) told u
  pub rest : NoPart u.parts u.begun

-- Memory was wanting: some whole parts from the front were answered, and what else came is dropped until the connection is ended.
pub record Breaks (s : State) (bytes : List ℕ) (u : State) : Type 0 where
  pub told : List Response
  pub last : State
  pub steps : Steps (with_bytes bytes s) told last
  pub broken : u ≡ record last { parts = []; begun = []; failed = true }
