-- What contracts see of a world that tells nothing.
use Rattle.std.specs.Prelude.{ℕ}

-- how often its disk and its link failed
pub record Faults : Type 0 where
  pub disk : ℕ
  pub link : ℕ
