use Rattle.std.proofs.Common.{◌≡◌, drop}
use Rattle.world_mem.specs.Both.{torn_at}
use Rattle.world_mem.specs.Memory.{start_of}
use Rattle.world_mem.specs.Numbered.{files_at}
use Rattle.world_mem.specs.Running.{Run}
use Rattle.world_mem.proofs.course.Course.files_at.Given as goal

abbrev pub invariant-loop-did : goal.invariant-loop-did
invariant-loop-did l = record {
  there : Run;
  stands : l.files ≡ torn_at there.clock.now there.seen;
  rest : files_at (drop l.did-index l.self.log.items) there l.left ≡ files_at l.self.log.items (start_of l.self) l.moment;
}
