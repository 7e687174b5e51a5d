-- A connection begins, and what becomes of a command that waits.
use Rattle.std.specs.Prelude.{◌≡◌, false, None, Some, true}
use Rattle.world_mem.specs.Running.{step}
use Rattle.world_mem.specs.Worlds.{entered_anew, run_in}
use Rattle.world_mem.specs.declared.did.Did.TheVariants as did
use Rattle.world_mem.specs.declared.did.Held.{Held}
use Rattle.world_mem.specs.declared.mem_world.MemWorld.{MemWorld}

-- The server greets, after the end of the old connection and all that others do: at once where no command waits or the one that does is to be dropped, and
-- else once that is carried out.
pub record Connects (old new : MemWorld) : Type 0 where
  pub free : (run_in old).held ≡ None → run_in new ≡ step did.Greeted (entered_anew old new)
  pub dropped : (held : Held) → (run_in old).held ≡ Some held → held.carried ≡ false
      → run_in new ≡ step did.Greeted (entered_anew old new)
  pub carried : (held : Held) → (run_in old).held ≡ Some held → held.carried ≡ true
      → run_in new ≡ step did.Greeted (step did.Settled (entered_anew old new))
