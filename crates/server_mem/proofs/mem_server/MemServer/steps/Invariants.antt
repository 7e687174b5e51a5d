use Rattle.std.proofs.Common.{length}
use Rattle.server_mem.specs.Falling.{Tells}
use Rattle.server_mem.proofs.mem_server.MemServer.steps.Given as goal

abbrev pub invariant-loop-out : goal.invariant-loop-out
invariant-loop-out l = Tells l.fn.self l.out.items l.self

abbrev pub decreases-loop-out : goal.decreases-loop-out
decreases-loop-out l = length l.self.begun
