use Rattle.std.proofs.Common.{◌∙◌}
use Rattle.server_mem.specs.Hearing.{with_bytes}
use Rattle.server_mem.proofs.Pieces.{steps_keep}
use Rattle.server_mem.proofs.mem_server.MemServer.hear.Goals as goal

pub returns-in-Ok-clause-ready : goal.returns-in-Ok-clause-ready
returns-in-Ok-clause-ready c =
    steps_keep (with_bytes c.args.bytes.now c.args.self.now) c.in-Ok.ensures.told.told c.hear_all.new.self c.in-Ok.ensures.told.steps ∙ c.requires

pub returns-in-Ok-clause-text : goal.returns-in-Ok-clause-text
returns-in-Ok-clause-text c = (
  c.in-Ok.ensures.told.told,
  record { steps = c.in-Ok.ensures.told.steps; rest = c.in-Ok.ensures.rest },
  c.in-Ok.ensures.told.text,
)
