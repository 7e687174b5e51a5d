use Rattle.server_mem.proofs.Welling.{from_well}
use Rattle.server_mem.proofs.mem_server.MemServer.server.Goals as goal

pub returns-clause-well : goal.returns-clause-well
returns-clause-well c = from_well c.self.inside.server.boxes c.self.inside.well
