use Rattle.std.proofs.Common.{ap, subst}
use Rattle.server_mem.specs.States.{State}
use Rattle.server_mem.specs.Well.{Well}
use Rattle.server_mem.proofs.mem_server.MemServer.outcome.Goals as goal

pub returns-clause-well : goal.returns-clause-well
returns-clause-well c = subst Well (ap (λ (s : State). s.server.boxes) c.self.view_is) c.self.inside.well
