use Rattle.std.proofs.Common.{◌+◌, ◌-◌, length}
use Rattle.literal_feed.proofs.Literals.{ReadSo}
use Rattle.literal_feed.proofs.line.frame_from.Given as goal

abbrev pub invariant-loop-cursor : goal.invariant-loop-cursor
invariant-loop-cursor l = ReadSo l.bytes l.cursor l.literals

abbrev pub decreases-loop-cursor : goal.decreases-loop-cursor
decreases-loop-cursor l = length l.bytes + 1 - l.cursor.part
