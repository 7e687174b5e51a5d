-- The connection that a command makes (RFC 9051, section 3).
use Rattle.std.specs.Prelude.{◌≡◌, ◌⊎◌}
use Rattle.world_traits.specs.Links.{Any}
use Rattle.world_traits.specs.Moments.{Moment, Clock, Since}
use Rattle.world_traits.specs.declared.clocked.Clocked.{Ghosts}
use Rattle.play_driver.specs.Accuses.{ConnectsOnce}
use Rattle.play_driver.specs.Questioning.{ConnectsFirst, RunStep}
use Rattle.mail_top.specs.Readying.{NoTurnDue}

-- what isn't on the disk stays
abbrev pub SameOutside : Moment → Moment → Type 0
SameOutside m n = n.outside ≡ m.outside

-- Up to a first clock what isn't on the disk stays, and where the run goes on from there, no stop leaves a journal there that is to be told
-- anew; up to a second one connections are made, if any is; and behind that none is made: the server answers, or is asked something, or for a
-- change of a mailbox, or to end the connection.
pub record ConnectsAtFirst (old new : Clock) : Type 0 where
  pub first : Clock
  pub opens : Since Any SameOutside old first
  pub ready : (first ≡ new) ⊎ NoTurnDue first.now
  pub run : ConnectsFirst RunStep first new

-- A run connects before it asks for anything, and not again behind it; and it makes one connection at most: what was sent in earlier ones is
-- as it was, but for what the last one before the run had sent.
pub record Connects {Self : Type 0} (W : Ghosts Self) (old new : Self) : Type 0 where
  pub at_first : W.tells_server → ConnectsAtFirst (W.clock old) (W.clock new)
  pub once : W.tells_files → ConnectsOnce (W.link old) (W.link new)

-- the link is as it was, and so is all that isn't on the disk
pub record SparesServer {Self : Type 0} (W : Ghosts Self) (old new : Self) : Type 0 where
  pub link : W.link new ≡ W.link old
  pub outside : W.tells_files → (W.clock new).now.outside ≡ (W.clock old).now.outside
