use Rattle.std.proofs.Common.{◌≡◌, take}
use Rattle.world_mem.specs.Memory.{run_of, line_of}
use Rattle.world_mem.specs.Others.{OthersChange, changes}
use Rattle.world_mem.specs.Standing.{in_use}
use Rattle.world_mem.proofs.mem_world.change_all.Given as goal

abbrev pub invariant-loop-number : goal.invariant-loop-number
invariant-loop-number l = OthersChange (run_of l.fn.course) (run_of l.course) × (line_of l.course ≡ line_of l.fn.course)
    × (run_of l.course ≡ changes (take l.number-index l.foreign) l.call (in_use l.fn.course.phase (run_of l.fn.course).state) (run_of l.fn.course))
    × (l.course.server ≡ record l.fn.course.server { server = (run_of l.course).state.server })
