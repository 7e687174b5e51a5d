-- What contracts see of sources and sinks in memory.
use Rattle.std.specs.Prelude.{ℕ, List}
use Rattle.world_traits.specs.Counts.{Plan}

-- all that was written to a sink, and how often it was refused room
pub record Printed : Type 0 where
  pub bytes : List ℕ
  pub refused : ℕ

-- a sink whose calls fail by a plan: what it is without the plan, the plan, and how often it failed
pub record FaultyPrinted : Type 0 where
  pub sink : Printed
  pub plan : Plan
  pub faults : ℕ

-- a source whose calls fail by a plan: what is still to be read, the plan, and how often it failed
pub record FaultyRest : Type 0 where
  pub rest : List ℕ
  pub plan : Plan
  pub faults : ℕ
