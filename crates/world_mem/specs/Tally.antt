-- What a world in memory counts: how often it was refused room, its disk failed, and its link failed.
use Rattle.std.specs.Prelude.{◌≡◌}
use Rattle.world_mem.specs.Planned.{unbegun}
use Rattle.world_mem.specs.Worlds.{disk_faults_of, link_faults_of, planned_of, refused_of}
use Rattle.world_mem.specs.declared.mem_world.MemWorld.{MemWorld}
use Rattle.world_mem.specs.declared.plan.Plan.{Plan}

-- The world has this plan, of which no call was made, and nothing was counted.
pub record IsUncalled (given : Plan) (world : MemWorld) : Type 0 where
  pub plan : planned_of world ≡ unbegun given
  pub refused : refused_of world ≡ 0
  pub faults : disk_faults_of world ≡ 0
  pub link : link_faults_of world ≡ 0

-- All counts stay.
pub record CountsStay (old new : MemWorld) : Type 0 where
  pub refused : refused_of new ≡ refused_of old
  pub faults : disk_faults_of new ≡ disk_faults_of old
  pub link : link_faults_of new ≡ link_faults_of old
