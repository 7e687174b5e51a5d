use Rattle.std.proofs.Common.{sym, subst}
use Rattle.server_mem.specs.Well.{Well}
use Rattle.server_mem.proofs.Counting.{few_messages}
use Rattle.server_mem.proofs.mem_server.MemServer.select.Goals as goal

pub select_told-requires : goal.select_told-requires
select_told-requires c =
    few_messages c.as_slice.result.now c.args.name.now c.in-Some.mailbox.now
    (subst Well (sym c.as_slice.ensures) c.self.inside.well) c.in-Some.ensures.some.found
