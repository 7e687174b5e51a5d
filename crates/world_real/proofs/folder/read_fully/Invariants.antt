use Rattle.std.proofs.Common.{◌≤◌, length}
use Rattle.world_real.proofs.folder.read_fully.Given as goal

abbrev pub invariant-loop : goal.invariant-loop
invariant-loop l = l.filled ≤ length l.into
