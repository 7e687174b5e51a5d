-- A plan of what befalls a world, and which calls it concerns.
use Rattle.std.specs.Prelude.{◌⊎◌, ◌==◌, ◌<◌, ℕ, List, [], ◌∷◌, Option, Some, None, Contains, take, if◌then◌else◌}
use Rattle.world_traits.specs.Counts.{counted}
use Rattle.world_mem.specs.declared.plan.Loss.{Loss}
use Rattle.world_mem.specs.declared.plan.Loss.TheVariants as losses
use Rattle.world_mem.specs.declared.plan.Plan.{Plan}

-- a plan, and how many calls of the disk, of the link, and of both there were since it was given
pub record Planned : Type 0 where
  pub plan : Plan
  pub disk : ℕ
  pub link : ℕ
  pub all : ℕ

-- no call was counted
abbrev pub unbegun : Plan → Planned
unbegun plan = record { plan = plan; disk = 0; link = 0; all = 0 }

-- one call of the disk more
abbrev pub next_disk : Planned → Planned
next_disk s = record s { disk = counted s.disk; all = counted s.all }

-- one call of the link more
abbrev pub next_link : Planned → Planned
next_link s = record s { link = counted s.link; all = counted s.all }

-- the last call came behind those after which the world has stopped
abbrev pub StopsAfter : Option ℕ → ℕ → Type 0
StopsAfter None all = ⊥
StopsAfter (Some calls) all = calls < all

abbrev pub IsStopped : Planned → Type 0
IsStopped s = StopsAfter s.plan.stop_after s.all

-- the last call was one of the disk that is to fail
abbrev pub DiskIsToFail : Planned → Type 0
DiskIsToFail s = IsStopped s ⊎ Contains s.plan.disk_fails s.disk

-- the first of these losses that is planned for a call
abbrev pub loss_in : List (ℕ × Loss) → ℕ → Option Loss
loss_in [] call = None
loss_in (l ∷ ls) call = if l.0 == call then Some l.1 else loss_in ls call

-- what arrives of these bytes, where the connection is lost so
abbrev pub arriving : Loss → List ℕ → List ℕ
arriving losses.Nothing bytes = []
arriving (losses.Part count) bytes = take count bytes
arriving losses.All bytes = bytes
arriving (losses.Waits carried) bytes = bytes

-- by such a loss not all of so many bytes arrive
abbrev pub IsShort : Loss → ℕ → Type 0
IsShort losses.Nothing size = Unit {0}
IsShort (losses.Part count) size = count < size
IsShort losses.All size = ⊥
IsShort (losses.Waits carried) size = ⊥
