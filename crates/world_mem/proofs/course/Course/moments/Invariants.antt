use Rattle.std.proofs.Common.{◌≡◌, ◌≤◌, ◌+◌, ◌*◌, take, sum_by}
use Rattle.world_mem.specs.Numbered.{added_by}
use Rattle.world_mem.proofs.course.Course.moments.Given as goal

abbrev pub invariant-loop-did : goal.invariant-loop-did
invariant-loop-did l = record {
  counted : l.count ≡ 1 + sum_by added_by (take l.did-index l.self.log.items);
  few : l.count ≤ 1 + 2 * l.did-index;
}
