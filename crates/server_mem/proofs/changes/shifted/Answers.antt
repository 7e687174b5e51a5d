use Rattle.std.proofs.Common.{◌∙◌}
use Rattle.server_mem.proofs.Ruling.{target_next}
use Rattle.server_mem.proofs.changes.shifted.Goals as goal

pub with_added-requires-clause-next : goal.with_added-requires-clause-next
with_added-requires-clause-next c =
    target_next c.args.boxes.now c.args.name.now c.args.uid c.args.to.now c.args.new c.in-Some.source.now c.as_slice-2.result.now c.requires
    c.in-Some.ensures.some.found (c.as_slice-2.ensures ∙ c.in_ok-left.ensures)
