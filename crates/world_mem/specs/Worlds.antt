-- What contracts see of a world in memory.
use Rattle.std.specs.Prelude.{◌≡◌, ◌⊎◌, ℕ, List, Option, Some, Result, IsErr}
use Rattle.server_mem.specs.States.{State}
use Rattle.world_traits.specs.Counts.{counted, CountsFailure}
use Rattle.world_traits.specs.LinkState.{Connection, LinkState}
use Rattle.world_traits.specs.Moments.{Moment, MayLeave}
use Rattle.world_mem.specs.Both.{Both}
use Rattle.world_mem.specs.Image.{bytes_of}
use Rattle.world_mem.specs.Memory.{Line, run_of, line_of, connection_of, earlier_of, sent_of}
use Rattle.world_mem.specs.Numbered.{moments_of, files_of}
use Rattle.world_mem.specs.Others.{OthersSome, others_in}
use Rattle.world_mem.specs.Planned.{Planned, IsStopped, loss_in}
use Rattle.world_mem.specs.Running.{Run, step}
use Rattle.world_mem.specs.Seen.{run_seen}
use Rattle.world_mem.specs.Standing.{in_use, lost_phase}
use Rattle.world_mem.specs.declared.course.Course.{Course}
use Rattle.world_mem.specs.declared.did.Did.TheVariants as did
use Rattle.world_mem.specs.declared.mem_world.MemWorld.{MemWorld}
use Rattle.world_mem.specs.declared.plan.Loss.{Loss}

-- what it holds, and what was done
abbrev pub course_of : MemWorld → Course
course_of world = world.course

-- what was done, and what came of it
abbrev pub run_in : MemWorld → Run
run_in world = run_of (course_of world)

-- its moments, and the files at the moment with a number
abbrev pub moments_in : MemWorld → List Moment
moments_in world = moments_of (course_of world)

abbrev pub files_in : MemWorld → ℕ → Both
files_in world k = files_of (course_of world) k

-- its connection: all of it, as a link tells it, and what was sent
abbrev pub line_in : MemWorld → Line
line_in world = line_of (course_of world)

abbrev pub connection_at : MemWorld → Option Connection
connection_at world = connection_of (course_of world)

abbrev pub sent_in : MemWorld → List ℕ
sent_in world = sent_of (course_of world)

abbrev pub earlier_in : MemWorld → List (List ℕ)
earlier_in world = earlier_of (course_of world)

-- the mailbox that others don't renew now, and the one that they don't as the next connection is made
abbrev pub used_in : MemWorld → Option (List ℕ)
used_in world = in_use (line_in world).phase (run_in world).state

abbrev pub used_anew : MemWorld → Option (List ℕ)
used_anew world = in_use (lost_phase (line_in world).phase) (run_in world).state

-- its server, as the connection has it
abbrev pub server_of : MemWorld → State
server_of world = world.course.server

-- the same, with what others have made of its mailboxes since
abbrev pub served_by : MemWorld → Run → State
served_by world r = record (server_of world) { server = r.state.server }

-- its plan, and how many calls there were
abbrev pub planned_of : MemWorld → Planned
planned_of world = world.schedule

-- how often it was refused room, its disk failed, and its link failed
abbrev pub refused_of : MemWorld → ℕ
refused_of world = world.refused

abbrev pub disk_faults_of : MemWorld → ℕ
disk_faults_of world = world.disk_faults

abbrev pub link_faults_of : MemWorld → ℕ
link_faults_of world = world.link_faults

-- its link
abbrev pub link_of : MemWorld → LinkState
link_of world = record {
  faults = world.link_faults;
  connection = connection_of world.course;
  sent = sent_of world.course;
  earlier = earlier_of world.course;
}

-- one growth was refused in the call
abbrev pub Refuses : MemWorld → MemWorld → Type 0
Refuses old new = refused_of new ≡ counted (refused_of old)

-- how the connection is lost in the last call of the link, if it is
abbrev pub loss_by : MemWorld → Option Loss
loss_by world = loss_in (planned_of world).plan.link_fails (planned_of world).link

-- what others make of the old world as the call begins, and some of it, from the front
abbrev pub entered : MemWorld → MemWorld → Run
entered old new = others_in (planned_of new) (used_in old) (run_in old)

abbrev pub EntersSome : MemWorld → MemWorld → Type 0
EntersSome old new = OthersSome (planned_of new) (used_in old) (run_in old) (run_in new)

-- The same as a connection is made: first it is told that the old one is at its end. Where memory was wanting for that, nothing is done.
abbrev pub entered_anew : MemWorld → MemWorld → Run
entered_anew old new = others_in (planned_of new) (used_anew old) (step did.Ended (run_in old))

abbrev pub EntersSomeAnew : MemWorld → MemWorld → Type 0
EntersSomeAnew old new =
    (run_in new ≡ run_in old) ⊎ OthersSome (planned_of new) (used_anew old) (step did.Ended (run_in old)) (run_in new)

-- A call fails for this reason, and else exactly where it was refused room.
pub record FailsExactly {T E : Type 0} (reason : Type 0) (result : Result T E) (before after : ℕ) : Type 0 where
  pub planned : reason → IsErr result
  pub others : (reason → ⊥) → CountsFailure result before after

-- the last call was one of the link in which the connection is lost
pub record IsLost (s : Planned) : Type 0 where
  pub loss : Loss
  pub is : loss_in s.plan.link_fails s.link ≡ Some loss

abbrev pub LinkIsToFail : Planned → Type 0
LinkIsToFail s = IsStopped s ⊎ IsLost s

-- what it reads as is one of the images of its moment
pub seen_sound : (course : Course) → MayLeave (run_of course).clock.now (run_of course).seen
seen_sound course = run_seen course.log.items (bytes_of course.given) course.began.value course.began_held.value
