-- What each call of a disk or of a link says of a world in memory.
use Rattle.std.specs.Prelude.{◌≡◌, ◌≤◌, false, Result, OnErr, OnOk}
use Rattle.imap_model.specs.Talking.{Connecting}
use Rattle.world_traits.specs.Calls.{Rose}
use Rattle.world_traits.specs.Links.{Linked}
use Rattle.world_mem.specs.Others.{OthersChange}
use Rattle.world_mem.specs.Planned.{DiskIsToFail, IsStopped, next_disk, next_link}
use Rattle.world_mem.specs.Standing.{is_on}
use Rattle.world_mem.specs.Worlds.{course_of, disk_faults_of, earlier_in, line_in, link_faults_of, planned_of, refused_of, run_in, sent_in}
use Rattle.world_mem.specs.Worlds.{entered, entered_anew, served_by, server_of, EntersSome, EntersSomeAnew, FailsExactly}
use Rattle.world_mem.specs.declared.mem_world.MemWorld.{MemWorld}

-- A call of the disk is counted, fails exactly where it is planned to or was refused room, and leaves the link, the server and the command
-- that waits there as they were.
pub record CallsDisk {T E : Type 0} (old new : MemWorld) (result : Result T E) : Type 0 where
  pub next : planned_of new ≡ next_disk (planned_of old)
  pub exact : FailsExactly (DiskIsToFail (planned_of new)) result (refused_of old) (refused_of new)
  pub server : (run_in new).state ≡ (run_in old).state
  pub held : (run_in new).held ≡ (run_in old).held
  pub line : line_in new ≡ line_in old
  pub link : link_faults_of new ≡ link_faults_of old

-- A call of the link is counted, fails exactly for this reason or since it was refused room, does nothing once the world has stopped,
-- and leaves the disk as it was. The count of the link's faults never falls, rises where it fails, and stays where it doesn't.
pub record CallsLink {T E : Type 0} (reason : Type 0) (old new : MemWorld) (result : Result T E) : Type 0 where
  pub next : planned_of new ≡ next_link (planned_of old)
  pub exact : FailsExactly reason result (refused_of old) (refused_of new)
  pub stopped : IsStopped (planned_of new) → run_in new ≡ run_in old
  pub disk : disk_faults_of new ≡ disk_faults_of old
  pub count : link_faults_of old ≤ link_faults_of new
  pub cause : OnErr result (Rose (link_faults_of old) (link_faults_of new))
  pub unfailed : OnOk result (link_faults_of new ≡ link_faults_of old)

-- As a call of the link begins it is counted, and others change the server, unless the world has stopped. Nothing is sent.
pub record Enters (old new : MemWorld) : Type 0 where
  pub next : planned_of new ≡ next_link (planned_of old)
  pub told : OthersChange (run_in old) (run_in new)
  pub stopped : IsStopped (planned_of new) → run_in new ≡ run_in old
  pub sent : sent_in new ≡ sent_in old
  pub earlier : earlier_in new ≡ earlier_in old
  pub disk : disk_faults_of new ≡ disk_faults_of old
  pub count : link_faults_of old ≤ link_faults_of new

-- The call goes on: all that others do was done, and the connection is as it was.
pub record GoesOn (old new : MemWorld) : Type 0 where
  pub done : run_in new ≡ entered old new
  pub server : server_of new ≡ served_by old (run_in new)
  pub line : line_in new ≡ line_in old
  pub faults : link_faults_of new ≡ link_faults_of old

-- It fails as it begins: some of what others do was done, and there is no connection any more.
pub record BreaksOff (old new : MemWorld) : Type 0 where
  pub some : EntersSome old new
  pub lost : is_on (course_of new).phase ≡ false
  pub cause : Rose (link_faults_of old) (link_faults_of new)

-- As a connection is made the call is counted; it is told that the old connection is at its end, and others change the server, unless the
-- world has stopped. Nothing is sent, and what waits stays.
pub record EntersAnew (old new : MemWorld) : Type 0 where
  pub next : planned_of new ≡ next_link (planned_of old)
  pub told : Linked Connecting (run_in old).clock (run_in new).clock
  pub held : (run_in new).held ≡ (run_in old).held
  pub stopped : IsStopped (planned_of new) → run_in new ≡ run_in old
  pub sent : sent_in new ≡ sent_in old
  pub earlier : earlier_in new ≡ earlier_in old
  pub disk : disk_faults_of new ≡ disk_faults_of old
  pub count : link_faults_of old ≤ link_faults_of new

-- That call goes on: the end was told, and all that others do was done.
pub record GoesOnAnew (old new : MemWorld) : Type 0 where
  pub done : run_in new ≡ entered_anew old new
  pub off : is_on (course_of new).phase ≡ false
  pub faults : link_faults_of new ≡ link_faults_of old

-- It fails as it begins: nothing was done, or the end was told and some of what others do was done.
pub record BreaksOffAnew (old new : MemWorld) : Type 0 where
  pub some : EntersSomeAnew old new
  pub lost : is_on (course_of new).phase ≡ false
  pub cause : Rose (link_faults_of old) (link_faults_of new)
