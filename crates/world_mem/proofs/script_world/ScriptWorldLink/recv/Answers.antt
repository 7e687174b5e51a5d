use Rattle.world_mem.specs.Scripted.{coming_in}
use Rattle.world_mem.specs.ScriptWorlds.{scripted_of}
use Rattle.world_mem.proofs.Stepping.{received_as}
use Rattle.world_mem.proofs.script_world.ScriptWorldLink.recv.Goals as goal

pub returns-clause-received : goal.returns-clause-received
returns-clause-received c =
    received_as c.recv.result (scripted_of c.args.self.now) c.recv.new.self c.recv.new.into (coming_in (scripted_of c.args.self.now)) c.recv.ensures.bytes
    c.recv.ensures.received
