use Rattle.std.proofs.Common.{◌≡◌, ◌↔◌, length}
use Rattle.command_texts.proofs.reading.same.are_same.Given as goal

abbrev pub invariant-loop-part : goal.invariant-loop-part
invariant-loop-part l = (l.left ≡ l.right) ↔ (l.lefts ≡ l.rights)

abbrev pub decreases-loop-part : goal.decreases-loop-part
decreases-loop-part l = length l.lefts
