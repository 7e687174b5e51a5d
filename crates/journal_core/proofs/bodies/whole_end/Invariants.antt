use Rattle.std.proofs.Common.{◌≤◌, ◌-◌, length}
use Rattle.journal_core.proofs.bodies.whole_end.Given as goal

abbrev pub invariant-loop-end : goal.invariant-loop-end
invariant-loop-end l = l.end ≤ length l.piece

abbrev pub decreases-loop-end : goal.decreases-loop-end
decreases-loop-end l = length l.piece - l.end
