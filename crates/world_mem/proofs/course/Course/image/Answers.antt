use Rattle.world_mem.specs.Memory.{run_of}
use Rattle.world_mem.proofs.course.Course.image.Goals as goal

pub returns-clause-lawful : goal.returns-clause-lawful
returns-clause-lawful c =
    let r = run_of c.args.self.now in
    c.image.ensures.lawful r.clock.now r.seen c.args.self.now.stands.files_are
