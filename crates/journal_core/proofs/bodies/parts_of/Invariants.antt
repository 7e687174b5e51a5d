use Rattle.std.proofs.Common.{◌-◌, length, map}
use Rattle.journal_core.specs.Several.{part_of}
use Rattle.journal_core.proofs.Few.{StandTo}
use Rattle.journal_core.proofs.bodies.parts_of.Given as goal

abbrev pub invariant-loop-size : goal.invariant-loop-size
invariant-loop-size l = StandTo (map (part_of l.piece) l.parts.items) l.end l.piece

abbrev pub decreases-loop-size : goal.decreases-loop-size
decreases-loop-size l = length l.piece - l.end
