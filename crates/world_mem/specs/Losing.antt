-- What becomes of bytes that are sent as the connection is lost.
use Rattle.std.specs.Prelude.{◌≡◌, ◌⊎◌, ℕ, Bool, List, [], ◌∷◌, ◌++◌, take}
use Rattle.command_texts.specs.HeardParts.{IsWhole}
use Rattle.imap_model.specs.declared.command.Command.{Command}
use Rattle.mail_base.specs.declared.tag.Tag.{Tag}
use Rattle.server_mem.specs.Hearing.{with_bytes}
use Rattle.server_mem.specs.States.{State}
use Rattle.world_mem.specs.Heard.{HearsAll}
use Rattle.world_mem.specs.Running.{Run, step}
use Rattle.world_mem.specs.declared.did.Did.TheVariants as did
use Rattle.world_mem.specs.declared.did.Held.{Held}
use Rattle.world_mem.specs.declared.plan.Loss.{Loss}
use Rattle.world_mem.specs.declared.plan.Loss.TheVariants as losses

-- these bytes come, and each whole part is answered, though nobody hears it
pub record HearsLast (bytes : List ℕ) (s : State) (old new : Run) : Type 0 where
  pub after : State
  pub all : HearsAll (with_bytes bytes s) old after new

-- the bytes are the last part of the command's text
pub record Completes (bytes : List ℕ) (s : State) (tag : Tag) (command : Command) : Type 0 where
  pub nothing : s.begun ≡ []
  pub whole : IsWhole tag command (s.parts ++ bytes ∷ [])

abbrev pub CompletesNone : List ℕ → State → Type 0
CompletesNone bytes s = (tag : Tag) (command : Command) → Completes bytes s tag command → ⊥

-- the command whose last part the bytes are waits
pub record Waits (carried : Bool) (bytes : List ℕ) (s : State) (old new : Run) : Type 0 where
  pub held : Held
  pub last : held.part ≡ bytes
  pub carries : held.carried ≡ carried
  pub completes : Completes bytes s held.tag held.command
  pub run : new ≡ step (did.Waited held) old

-- by each loss
abbrev pub Loses : Loss → List ℕ → State → Run → Run → Type 0
Loses losses.Nothing bytes s old new = new ≡ old
Loses (losses.Part count) bytes s old new = HearsLast (take count bytes) s old new
Loses losses.All bytes s old new = HearsLast bytes s old new
Loses (losses.Waits carried) bytes s old new = Waits carried bytes s old new ⊎ (CompletesNone bytes s × HearsLast bytes s old new)
