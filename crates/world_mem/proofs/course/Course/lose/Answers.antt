use Rattle.std.proofs.Common.{◌≡◌, rules}
use Rattle.world_mem.specs.Memory.{run_of}
use Rattle.world_mem.specs.declared.course.Phase.TheVariants as phases
use Rattle.world_mem.proofs.Doing.{lost_stands}
use Rattle.world_mem.proofs.course.Course.lose.Goals as goal

pub invariant_of-self : goal.invariant_of-self
invariant_of-self c =
    let w = c.args.self.now in
    let none : w.phase ≡ phases.Waiting → ⊥ = search rules in
    record {
      stands = lost_stands w.files w.server w.phase w.held w.parts w.unfinished w.lines.items w.received (run_of w) w.stands none;
    }
