-- The moments that a call of a link adds.
use Rattle.std.specs.Prelude.{◌≡◌}
use Rattle.imap_model.specs.Talking.{Peer}
use Rattle.world_traits.specs.Moments.{Moment, Clock, Since, tick}

-- the files stay, and the server with its connection takes a step
pub record LinkStep (S : Peer → Peer → Type 0) (m n : Moment) : Type 0 where
  pub left : n.left ≡ m.left
  pub right : n.right ≡ m.right
  pub outside : S m.outside n.outside

-- any moment
abbrev pub Any : Moment → Type 0
Any m = Unit {0}

-- any step: of a server that isn't told nothing is known
abbrev pub AnyStep : Peer → Peer → Type 0
AnyStep p q = Unit {0}

-- new is old with moments added, with the same files, and with the server at such steps
abbrev pub Linked : (Peer → Peer → Type 0) → Clock → Clock → Type 0
Linked S old new = Since Any (LinkStep S) old new

-- one moment more, in which the server with its connection has become this
abbrev pub becomes : (Peer → Peer) → Clock → Clock
becomes f c = tick c (record c.now { outside = f c.now.outside })
