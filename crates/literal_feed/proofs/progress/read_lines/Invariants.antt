use Rattle.std.proofs.Common.{◌-◌, length}
use Rattle.literal_feed.specs.Streams.{Reads}
use Rattle.literal_feed.proofs.progress.read_lines.Given as goal

abbrev pub invariant-loop-end : goal.invariant-loop-end
invariant-loop-end l = ∥ Reads l.at l.text l.whole l.cursor ∥₁

abbrev pub decreases-loop-end : goal.decreases-loop-end
decreases-loop-end l = length l.text - l.whole
