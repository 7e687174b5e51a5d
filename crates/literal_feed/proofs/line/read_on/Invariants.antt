use Rattle.std.proofs.Common.{◌+◌, ◌-◌, length}
use Rattle.literal_feed.specs.Lines.{Stands}
use Rattle.literal_feed.proofs.line.read_on.Given as goal

abbrev pub invariant-loop-cursor : goal.invariant-loop-cursor
invariant-loop-cursor l = ∥ Stands l.line l.cursor ∥₁

abbrev pub decreases-loop-cursor : goal.decreases-loop-cursor
decreases-loop-cursor l = length l.line + 1 - l.cursor.part
