-- What contracts see of a link.
use Rattle.std.specs.Prelude.{ℕ, List, [], Option, None}

-- the bytes received in the present connection
pub record Connection : Type 0 where
  pub received : List ℕ

-- a connection in which nothing was received
abbrev pub fresh : Connection
fresh = record { received = [] }

-- How often the link has failed, the present connection, where there is one, the bytes sent in it, or in the last one where there
-- is none, and those sent before each connection that was made, since the one before it, the latest first: so there are as many of
-- them as connections were made.
pub record LinkState : Type 0 where
  pub faults : ℕ
  pub connection : Option Connection
  pub sent : List ℕ
  pub earlier : List (List ℕ)

-- a link that was never used
abbrev pub unused : LinkState
unused = record { faults = 0; connection = None; sent = []; earlier = [] }

-- a link to no server, which has failed so often
abbrev pub failed_link : ℕ → LinkState
failed_link faults = record { faults = faults; connection = None; sent = []; earlier = [] }
