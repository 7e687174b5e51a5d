-- What contracts see of the world of a muted server.
use Rattle.std.specs.Prelude.{ℕ}
use Rattle.world_traits.specs.Files.{Files}
use Rattle.world_traits.specs.LinkState.{LinkState}
use Rattle.world_traits.specs.Memory as memory
use Rattle.world_traits.specs.Moments.{Clock, MayLeave}
use Rattle.world_traits.specs.Replay.{State}
use Rattle.world_traits.specs.Replayed.{sound}
use Rattle.mail_top.specs.Course.{Course}
use Rattle.mail_scenario.specs.declared.muted_world.MutedWorld.{MutedWorld}

-- its disk: the moments so far, and what the files read as
abbrev pub disk_of : MutedWorld → State
disk_of world = memory.state_of world.disk

-- the moments so far
abbrev pub clock_of : MutedWorld → Clock
clock_of world = (disk_of world).clock

-- what the files read as
abbrev pub files_of : MutedWorld → Files
files_of world = (disk_of world).files

-- its link
abbrev pub link_of : MutedWorld → LinkState
link_of world = world.link

-- how often its disk failed
abbrev pub disk_faults_of : MutedWorld → ℕ
disk_faults_of world = memory.refused_of world.disk

-- what it reads as is one of the images of its moment
pub seen_sound : (world : MutedWorld) → MayLeave (clock_of world).now (files_of world)
seen_sound world = sound world.disk.calls.items world.disk.files.given.left world.disk.files.given.right

-- what a run found on the disk and of the link, and what it left there
abbrev pub course_between : MutedWorld → MutedWorld → Course
course_between old new = record {
  old = clock_of old;
  new = clock_of new;
  seen = files_of old;
  seen_after = files_of new;
  link = link_of old;
  link_after = link_of new;
}
