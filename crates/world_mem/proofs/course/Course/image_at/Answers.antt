use Rattle.std.proofs.Common.{refl, ◌∙◌}
use Rattle.world_mem.specs.Memory.{start_of}
use Rattle.world_mem.proofs.Numbering.{files_there}
use Rattle.world_mem.proofs.course.Course.image_at.Goals as goal

pub returns-clause-lawful : goal.returns-clause-lawful
returns-clause-lawful c =
    λ m is.
    let w = c.args.self.now in
    let there = files_there w.log.items (start_of w) m c.args.moment refl is in
    c.image.ensures.lawful m there.0 (c.in_ok-files.ensures ∙ there.1)
