-- What contracts see of the real world: how often it failed, and nothing of its files and of its server.
use Rattle.std.specs.Prelude.{ℕ, Bool}

-- how often the disk and the link have failed, each up to the last value of a count, and whether another run used the journal
pub record Faults : Type 0 where
  pub disk : ℕ
  pub link : ℕ
  pub in_use : Bool
