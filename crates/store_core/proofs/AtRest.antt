-- What the calls of a store leave has one side at rest.
use Rattle.std.proofs.Common.{◌≡◌}
use Rattle.world_traits.specs.Files.{Files, other}
use Rattle.world_traits.specs.Moments.{Moment, OneSideAtRest, stored}
use Rattle.world_traits.specs.declared.disk.Side.{Side}
use Rattle.world_traits.proofs.OneSide.{one_at_rest, one_left}
use Rattle.store_core.specs.Keeping.{Keeping}
use Rattle.store_core.specs.Holding.{Holding, IsAsLeft}

-- as a store left it
pub left_one : (K : Keeping) (store : Holding K) (m : Moment) (seen : Files) → IsAsLeft K store m seen → OneSideAtRest m
left_one K store m seen left = one_at_rest m seen left.still.rests

-- and after an append
pub append_one : (K : Keeping) (store : Holding K) (side : Side) (m n : Moment) (seen : Files) → IsAsLeft K store m seen →
    stored (other side) n ≡ stored (other side) m → OneSideAtRest n
append_one K store side m n seen left same = one_left side m n seen left.still.rests same
