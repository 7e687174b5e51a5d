use Rattle.std.proofs.Common.{refl}
use Rattle.server_mem.proofs.mem_server.MemServer.ask.Goals as goal

pub returns-clause-answered : goal.returns-clause-answered
returns-clause-answered c = record { may = c.requires; after = refl; lines = c.in_ok-lines.ensures.spelled; text = c.in_ok-lines.ensures.text }
