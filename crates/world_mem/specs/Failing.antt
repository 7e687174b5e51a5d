-- How a world in memory stands after a call that failed.
use Rattle.std.specs.Prelude.{◌≡◌, ◌≤◌, false}
use Rattle.world_traits.specs.Calls.{Rose}
use Rattle.world_traits.specs.Counts.{counted}
use Rattle.world_mem.specs.Standing.{is_on}
use Rattle.world_mem.specs.Worlds.{course_of, disk_faults_of, earlier_in, link_faults_of, planned_of, run_in, sent_in}
use Rattle.world_mem.specs.declared.mem_world.MemWorld.{MemWorld}

-- A failure of the disk was counted, and all else is as it was.
pub record DiskFails (old new : MemWorld) : Type 0 where
  pub course : course_of new ≡ course_of old
  pub planned : planned_of new ≡ planned_of old
  pub link : link_faults_of new ≡ link_faults_of old
  pub faults : disk_faults_of new ≡ counted (disk_faults_of old)
  pub count : disk_faults_of old ≤ disk_faults_of new
  pub rose : Rose (disk_faults_of old) (disk_faults_of new)

-- A failure of the link was counted, and there is no connection any more. What was done and what was sent stays.
pub record LinkFails (old new : MemWorld) : Type 0 where
  pub run : run_in new ≡ run_in old
  pub lost : is_on (course_of new).phase ≡ false
  pub sent : sent_in new ≡ sent_in old
  pub earlier : earlier_in new ≡ earlier_in old
  pub planned : planned_of new ≡ planned_of old
  pub disk : disk_faults_of new ≡ disk_faults_of old
  pub faults : link_faults_of new ≡ counted (link_faults_of old)
  pub count : link_faults_of old ≤ link_faults_of new
  pub rose : Rose (link_faults_of old) (link_faults_of new)
