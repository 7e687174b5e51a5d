-- How what a world in memory holds stands to what was done in it.
use Rattle.std.specs.Prelude.{◌≡◌, ◌≤◌, ℕ, Bool, true, false, ◌||◌, ◌==◌, List, [], ◌∷◌, ◌++◌, Option, Some, None, take, length}
use Rattle.imap_model.specs.Lines.{AreLines}
use Rattle.imap_model.specs.Talking.{Arriving}
use Rattle.imap_model.specs.declared.response.Response.{Response}
use Rattle.command_texts.specs.HeardParts.{IsWhole}
use Rattle.server_mem.specs.States.{State, disconnected}
use Rattle.server_mem.specs.declared.outcome.Answered.{Answered}
use Rattle.server_mem.specs.declared.outcome.Answered.TheVariants as answers
use Rattle.world_traits.specs.LinkState.{Connection}
use Rattle.world_mem.specs.Both.{Both, torn_at}
use Rattle.world_mem.specs.Running.{Run, waiting_of}
use Rattle.world_mem.specs.declared.did.Held.{Held}
use Rattle.world_mem.specs.declared.course.Phase.{Phase}
use Rattle.world_mem.specs.declared.course.Phase.TheVariants as phases

-- what is still to be known of the server's connection: all, where there is one or a command waits, but the bytes that aren't a whole part
abbrev pub seen_in : Phase → State → State
seen_in phases.Off s = disconnected s
seen_in phases.On s = record s { begun = [] }
seen_in phases.Hearing s = record s { begun = [] }
seen_in phases.Waiting s = record s { begun = [] }

-- the command that waits, where one does
abbrev pub held_in : Phase → Option Held → Option Held
held_in phases.Off held = None
held_in phases.On held = None
held_in phases.Hearing held = None
held_in phases.Waiting held = held

-- how the connection stands as a world begins
abbrev pub phase_of : Option Held → Phase
phase_of None = phases.Off
phase_of (Some held) = phases.Waiting

-- there is a connection; a call in whose midst memory was wanting, as bytes were arriving, has lost it
abbrev pub is_on : Phase → Bool
is_on phases.Off = false
is_on phases.On = true
is_on phases.Hearing = false
is_on phases.Waiting = false

-- behind the end of a connection: only a command that waits is left of it
abbrev pub lost_phase : Phase → Phase
lost_phase phases.Off = phases.Off
lost_phase phases.On = phases.Off
lost_phase phases.Hearing = phases.Off
lost_phase phases.Waiting = phases.Waiting

-- where a call in whose midst memory was wanting has lost the connection, nothing is left of it
abbrev pub rested_phase : Phase → Phase
rested_phase phases.Off = phases.Off
rested_phase phases.On = phases.On
rested_phase phases.Hearing = phases.Off
rested_phase phases.Waiting = phases.Waiting

-- of what is selected that is told of a connection
abbrev pub selected_in : Phase → Option (List ℕ) → Option (List ℕ)
selected_in phases.Off selected = None
selected_in phases.On selected = selected
selected_in phases.Hearing selected = selected
selected_in phases.Waiting selected = None

-- the mailbox that others don't renew now: the one that is selected in a connection, or was selected as the connection of the command
-- that waits was lost
abbrev pub in_use : Phase → State → Option (List ℕ)
in_use phases.Off s = None
in_use phases.On s = s.selected
in_use phases.Hearing s = None
in_use phases.Waiting s = s.selected

-- the parts of the text that is arriving, in a connection
abbrev pub parts_in : Phase → List (List ℕ) → List (List ℕ)
parts_in phases.Off parts = []
parts_in phases.On parts = parts
parts_in phases.Hearing parts = parts
parts_in phases.Waiting parts = []

-- where bytes aren't a whole part, and nothing more comes for now, that is remembered
abbrev pub rests : Phase → ℕ → Bool → Bool
rests phases.Off unfinished begun = true
rests phases.On unfinished begun = (unfinished == 0) || begun
rests phases.Hearing unfinished begun = true
rests phases.Waiting unfinished begun = unfinished == 0

-- in a connection the lines are those of what was told
abbrev pub TellsIn : Phase → List Response → List ℕ → Type 0
TellsIn phases.Off told lines = Unit {0}
TellsIn phases.On told lines = AreLines told lines
TellsIn phases.Hearing told lines = AreLines told lines
TellsIn phases.Waiting told lines = Unit {0}

-- the connection, with so many bytes of the lines as received
abbrev pub connection_in : Bool → List ℕ → ℕ → Option Connection
connection_in false lines received = None
connection_in true lines received = Some (record { received = take received lines })

-- what is known of the text that is arriving: whether the next part was asked for, and the parts that came
abbrev pub came : Option Arriving → Option (Bool × List (List ℕ))
came None = None
came (Some a) = Some (a.asked, a.parts)

-- the same, by the bytes that have come
abbrev pub coming : Bool → List (List ℕ) → Option (Bool × List (List ℕ))
coming true parts = Some (false, [])
coming false [] = None
coming false (part ∷ parts) = Some (true, part ∷ parts)

-- in a connection
abbrev pub came_in : Phase → Option (Bool × List (List ℕ)) → Option (Bool × List (List ℕ))
came_in phases.Off text = None
came_in phases.On text = text
came_in phases.Hearing text = text
came_in phases.Waiting text = None

-- memory was wanting in the midst of what came, in a connection
abbrev pub failed_in : Phase → Bool → Bool
failed_in phases.Off failed = false
failed_in phases.On failed = failed
failed_in phases.Hearing failed = failed
failed_in phases.Waiting failed = failed

-- how many bytes aren't a whole part, where there is a connection or a command waits
abbrev pub counted_in : Phase → ℕ → ℕ
counted_in phases.Off count = 0
counted_in phases.On count = count
counted_in phases.Hearing count = count
counted_in phases.Waiting count = count

-- behind these parts the last one of the command's text has come
abbrev pub IsComplete : Option Held → List (List ℕ) → Type 0
IsComplete None parts = ⊥
IsComplete (Some held) parts = IsWhole held.tag held.command (parts ++ held.part ∷ [])

abbrev pub WholeIn : Phase → Option Held → List (List ℕ) → Type 0
WholeIn phases.Off held parts = Unit {0}
WholeIn phases.On held parts = Unit {0}
WholeIn phases.Hearing held parts = Unit {0}
WholeIn phases.Waiting held parts = IsComplete held parts

-- the parts that stay, where the last of them is answered so
abbrev pub kept_as : Answered → List (List ℕ) → List (List ℕ)
kept_as (answers.Asked tag) parts = parts
kept_as (answers.Carried tag command) parts = []
kept_as (answers.Refused tag) parts = []
kept_as (answers.Bad tag) parts = []

-- what the world holds is what was done
pub record Stands (files : Both) (server : State) (phase : Phase) (held : Option Held) (parts : List (List ℕ)) (unfinished : ℕ)
    (lines : List ℕ) (received : ℕ) (r : Run) : Type 0 where
  pub files_are : files ≡ torn_at r.clock.now r.seen
  pub server_is : seen_in phase server ≡ seen_in phase r.state
  pub held_is : held_in phase held ≡ r.held
  pub parts_are : parts_in phase parts ≡ parts_in phase r.state.parts
  pub counted : counted_in phase (length server.begun) ≡ counted_in phase unfinished
  pub rested : rests phase unfinished r.begun ≡ true
  pub told : ∥ TellsIn phase r.clock.now.outside.talk.told lines ∥₁
  pub whole : ∥ WholeIn phase held r.state.parts ∥₁
  pub within : received ≤ length lines
  pub server_fits : r.clock.now.outside.server ≡ r.state.server
  pub selected_fits : selected_in phase r.clock.now.outside.talk.selected ≡ selected_in phase r.state.selected
  pub waits : r.clock.now.outside.waiting ≡ waiting_of r.state r.held
  pub sound : failed_in phase r.state.failed ≡ false
  pub lawful : r.state.muted ≡ false
  pub comes : came_in phase (came r.clock.now.outside.talk.arriving) ≡ came_in phase (coming r.begun r.state.parts)
