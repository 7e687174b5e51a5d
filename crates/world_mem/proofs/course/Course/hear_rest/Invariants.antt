use Rattle.std.proofs.Common.{◌≡◌, []}
use Rattle.world_traits.specs.Links.{Linked, AnyStep}
use Rattle.world_mem.specs.Heard.{HearsParts}
use Rattle.world_mem.specs.Memory.{run_of, line_of, earlier_of, had_in}
use Rattle.world_mem.specs.declared.course.Phase.TheVariants as phases
use Rattle.world_mem.proofs.course.Course.hear_rest.Given as goal

abbrev pub invariant-loop : goal.invariant-loop
invariant-loop l = (l.self.phase ≡ phases.Hearing) × Linked AnyStep (run_of l.fn.self).clock (run_of l.self).clock
    × (l.fn.self.server.begun ≡ [] → (run_of l.self ≡ run_of l.fn.self) × (l.self.server.begun ≡ []))
    × (had_in (line_of l.self) ≡ had_in (line_of l.fn.self))
    × HearsParts l.fn.self.server (run_of l.fn.self) l.self.server (run_of l.self)
    × (earlier_of l.self ≡ earlier_of l.fn.self)

abbrev pub decreases-loop : goal.decreases-loop
decreases-loop l = l.self.unfinished
