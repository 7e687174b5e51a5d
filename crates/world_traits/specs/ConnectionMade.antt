-- What a link shows once a connection was made (RFC 9051, section 2.1).
use Rattle.std.specs.Prelude.{◌≡◌, [], ◌∷◌, Some}
use Rattle.world_traits.specs.LinkState.{LinkState, fresh}

-- A connection begins: nothing was received in it, and nothing was sent. What was sent up to now stands in front of what was sent
-- earlier, also where it is nothing.
pub record ConnectionMade (old new : LinkState) : Type 0 where
  pub begins : new.connection ≡ Some fresh
  pub sent : new.sent ≡ []
  pub earlier : new.earlier ≡ old.sent ∷ old.earlier
