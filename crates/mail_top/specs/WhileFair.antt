-- What a run keeps of the book beside the server while others are fair (this client's profile of RFC 4549, section 4.2).
use Rattle.world_traits.specs.Moments.{Clock}
use Rattle.world_traits.specs.declared.clocked.Clocked.{Ghosts}
use Rattle.mail_top.specs.BesideServer.{EntersKept, FairUpTo}
use Rattle.mail_top.specs.Headline.{AlwaysOwned, NeverTwice}
use Rattle.mail_top.specs.KeptNow.{StaysKept}

-- Up to each moment to which others were fair: it is kept, and joined to the one before it; no action took effect twice; and each change
-- that is this client's is one that an action wants of the book that a stop leaves.
pub record WhileFair {Self : Type 0} (W : Ghosts Self) (old new : Self) : Type 0 where
  pub joined : EntersKept W old → StaysKept (W.clock old) (W.clock new)
  pub twice : (at : Clock) → FairUpTo W old new at → NeverTwice (W.clock old) at
  pub owned : EntersKept W old → (at : Clock) → FairUpTo W old new at → AlwaysOwned (W.clock old) at
