-- What contracts see of a world over whose link a script comes.
use Rattle.std.specs.Prelude.{◌≡◌, ℕ}
use Rattle.world_traits.specs.LinkState.{LinkState}
use Rattle.world_traits.specs.Memory as memory
use Rattle.world_traits.specs.Moments.{MayLeave}
use Rattle.world_traits.specs.Replay.{State}
use Rattle.world_traits.specs.Replayed.{sound}
use Rattle.world_mem.specs.Scripted.{Scripted, connection_of}
use Rattle.world_mem.specs.declared.script_world.ScriptWorld.{ScriptWorld}

-- its disk: the moments so far, and what the files read as
abbrev pub disk_of : ScriptWorld → State
disk_of world = memory.state_of world.disk

-- its script, and how it was told
abbrev pub scripted_of : ScriptWorld → Scripted
scripted_of world = world.link

-- how often it was refused room, and its disk failed
abbrev pub refused_of : ScriptWorld → ℕ
refused_of world = world.refused

abbrev pub disk_faults_of : ScriptWorld → ℕ
disk_faults_of world = memory.refused_of world.disk

-- its link
abbrev pub link_of : ScriptWorld → LinkState
link_of world = record {
  faults = (scripted_of world).faults;
  connection = connection_of (scripted_of world);
  sent = (scripted_of world).sent;
  earlier = (scripted_of world).earlier;
}

-- what it reads as is one of the images of its moment
pub seen_sound : (world : ScriptWorld) → MayLeave (disk_of world).clock.now (disk_of world).files
seen_sound world = sound world.disk.calls.items world.disk.files.given.left world.disk.files.given.right

-- A call only looked at the disk, and all is as it was.
pub record LooksOnly (old new : ScriptWorld) : Type 0 where
  pub same : new.disk ≡ old.disk
  pub link : scripted_of new ≡ scripted_of old
  pub refused : refused_of new ≡ refused_of old

-- A call of the link left the disk as it was, and was not refused room.
pub record LeavesDisk (old new : ScriptWorld) : Type 0 where
  pub disk : new.disk ≡ old.disk
  pub refused : refused_of new ≡ refused_of old
