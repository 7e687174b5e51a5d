-- What a link shows once a connection couldn't be made.
use Rattle.std.specs.Prelude.{◌≡◌, None}
use Rattle.world_traits.specs.LinkState.{LinkState}

-- There is no connection, the old one neither, and all that was sent is known as before.
pub record ConnectionFailed (old new : LinkState) : Type 0 where
  pub unsent : new.sent ≡ old.sent
  pub unmade : new.earlier ≡ old.earlier
  pub lost : new.connection ≡ None
