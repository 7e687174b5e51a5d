-- What contracts see of a disk in memory.
use Rattle.std.specs.Prelude.{ℕ}
use Rattle.world_traits.specs.LinkState.{LinkState, failed_link}
use Rattle.world_traits.specs.Replay.{State, start, replay}
use Rattle.world_traits.specs.declared.memory.MemDisk.{MemDisk}

-- the disk as its calls left it: the moments so far, and what the files read as
abbrev pub state_of : MemDisk → State
state_of disk = replay disk.calls.items (start disk.files.given.left disk.files.given.right)

-- how often it was refused room
abbrev pub refused_of : MemDisk → ℕ
refused_of disk = disk.refused

-- its link, which has no server
abbrev pub link_of : MemDisk → LinkState
link_of disk = failed_link disk.link
