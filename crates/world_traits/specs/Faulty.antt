-- What contracts see of a disk in memory whose calls fail by a plan.
use Rattle.std.specs.Prelude.{ℕ}
use Rattle.world_traits.specs.Counts.{Plan}
use Rattle.world_traits.specs.LinkState.{LinkState, failed_link}
use Rattle.world_traits.specs.Moments.{MayLeave}
use Rattle.world_traits.specs.Memory.{state_of}
use Rattle.world_traits.specs.Replayed.{sound}
use Rattle.world_traits.specs.declared.memory.MemDisk.{MemDisk}
use Rattle.world_traits.specs.declared.faulty_disk.FaultyDisk.{FaultyDisk}

-- the disk without the plan
abbrev pub disk_of : FaultyDisk → MemDisk
disk_of faulty = faulty.disk

-- which calls are to fail, and how many there were
abbrev pub plan_of : FaultyDisk → Plan
plan_of faulty = faulty.plan

-- how often a call failed
abbrev pub faults_of : FaultyDisk → ℕ
faults_of faulty = faulty.faults

-- its link, which has no server
abbrev pub link_beside : FaultyDisk → LinkState
link_beside faulty = failed_link faulty.link

-- what it reads as is one of the images of its moment
pub faulty_sound : (faulty : FaultyDisk) → MayLeave (state_of (disk_of faulty)).clock.now (state_of (disk_of faulty)).files
faulty_sound faulty = sound faulty.disk.calls.items faulty.disk.files.given.left faulty.disk.files.given.right
