use Rattle.std.proofs.Common.{ap}
use Rattle.server_mem.specs.Falling.{broken}
use Rattle.server_mem.specs.Hearing.{with_bytes}
use Rattle.server_mem.proofs.Faults.{on_err}
use Rattle.server_mem.proofs.Falls.{fall_here}
use Rattle.server_mem.proofs.mem_server.MemServer.hear_all.Goals as goal

pub returns-in_err-take_in-clause-fallen : goal.returns-in_err-take_in-clause-fallen
returns-in_err-take_in-clause-fallen c = on_err c.from_residual.result
    (fall_here (with_bytes c.args.bytes.now c.args.self.now) c.take_in.new.self (ap broken c.in_err-take_in.ensures.kept))
