use Rattle.std.proofs.Common.{subst, Option}
use Rattle.server_mem.specs.Turns.{after}
use Rattle.server_mem.specs.Well.{Well}
use Rattle.server_mem.specs.declared.turn.Made.{Made}
use Rattle.server_mem.proofs.mem_server.MemServer.enter.Goals as goal

pub commit-requires : goal.commit-requires
commit-requires c = subst (λ (o : Option Made). Well (after o c.args.self.now.server).boxes) c.in-Some.is c.requires
