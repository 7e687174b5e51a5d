-- The bytes of a file in memory: those that it was given, and those that it holds now.
use Rattle.std.specs.Prelude.{ℕ, List, Option, Some, None, Vec}
use Rattle.std.specs.declared.alloc.Global.{Global}
use Rattle.world_traits.specs.Files.{Files}

pub record Content : Type 0 where
  pub given : List ℕ
  pub now : List ℕ

-- what it holds: what it was given, until something was written
abbrev pub content : List ℕ → Option (Vec ℕ Global) → List ℕ
content given None = given
content given (Some later) = later.items

-- the same of both files
pub record Contents : Type 0 where
  pub given : Files
  pub now : Files
