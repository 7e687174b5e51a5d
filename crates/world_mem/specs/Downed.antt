-- What a planned loss does in a `send`.
use Rattle.std.specs.Prelude.{◌≡◌, ◌⊎◌, ℕ, List, ◌++◌, length}
use Rattle.imap_model.specs.Talking.{Awaits, IsPartOf}
use Rattle.imap_model.specs.declared.command.Command.{Command}
use Rattle.mail_base.specs.declared.tag.Tag.{Tag}
use Rattle.world_traits.specs.Sends.{Arrives}
use Rattle.world_mem.specs.Losing.{Loses}
use Rattle.world_mem.specs.Planned.{IsShort, arriving}
use Rattle.world_mem.specs.Worlds.{entered, run_in, sent_in, served_by, Refuses}
use Rattle.world_mem.specs.declared.mem_world.MemWorld.{MemWorld}
use Rattle.world_mem.specs.declared.plan.Loss.{Loss}

-- These bytes are sent in a connection that is lost so: unless room was refused, as much of them arrives as the loss says, it
-- becomes of them what the loss says, and a part that is awaited arrives where it comes whole.
pub record Downed (loss : Loss) (bytes : List ℕ) (old new : MemWorld) : Type 0 where
  pub whole : (IsShort loss (length bytes) → ⊥) → (tag : Tag) (command : Command) (before behind : List (List ℕ))
      → IsPartOf tag command before bytes behind → Awaits tag before (run_in old).clock.now.outside
      → Arrives tag command before bytes behind (run_in old).clock (run_in new).clock ⊎ Refuses old new
  pub arrived : (sent_in new ≡ sent_in old ++ arriving loss bytes) ⊎ Refuses old new
  pub loses : Loses loss bytes (served_by old (entered old new)) (entered old new) (run_in new) ⊎ Refuses old new
