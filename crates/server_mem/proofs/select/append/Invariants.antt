use Rattle.std.proofs.Common.{◌≡◌, ◌++◌}
use Rattle.server_mem.proofs.select.append.Given as goal

abbrev pub invariant-loop-response : goal.invariant-loop-response
invariant-loop-response l = l.told ≡ l.initial.told ++ l.yielded
