-- One side at rest at every moment of a call.
use Rattle.std.specs.Prelude.{◌≡◌, []}
use Rattle.world_traits.specs.Moments.{Moment, Clock, OneSideAtRest, Since, stored}
use Rattle.world_traits.specs.Files.{other}
use Rattle.world_traits.specs.declared.disk.Side.{Side}

-- this side has no range that was written since its last sync
abbrev pub SideAtRest : Side → Moment → Type 0
SideAtRest side m = (stored side m).written ≡ []

-- any step
abbrev pub AnyNext : Moment → Moment → Type 0
AnyNext m n = Unit {0}

-- at each moment that the call added at most one side has ranges that were written since its last sync
abbrev pub EachOneSide : Clock → Clock → Type 0
EachOneSide old new = Since OneSideAtRest AnyNext old new

-- Calls on one side leave the other as it is; and where that one was at rest, one side is at rest at each moment.
pub record IsAside (side : Side) (old new : Clock) : Type 0 where
  pub beside : stored (other side) new.now ≡ stored (other side) old.now
  pub each : SideAtRest (other side) old.now → EachOneSide old new
