-- How a run uses the link.
use Rattle.std.specs.Prelude.{ℕ, List}
use Rattle.world_traits.specs.declared.clocked.Clocked.{Ghosts}
use Rattle.mail_top.specs.Connecting.{Connects, SparesServer}
use Rattle.mail_top.specs.Words.{WritesPlay}

-- It connects before it asks for anything, and once at most; and for a `play` alone.
pub record UsesLink {Self : Type 0} (W : Ghosts Self) (words : List (List ℕ)) (old new : Self) : Type 0 where
  pub connects : Connects W old new
  pub spares : (WritesPlay words → ⊥) → SparesServer W old new
