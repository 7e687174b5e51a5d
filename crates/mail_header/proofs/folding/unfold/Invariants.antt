use Rattle.std.proofs.Common.{◌≡◌, ◌++◌, length}
use Rattle.mail_header.specs.Folding.{unfolded}
use Rattle.mail_header.proofs.folding.unfold.Given as goal

abbrev pub invariant-loop-line : goal.invariant-loop-line
invariant-loop-line l = l.text.items ++ unfolded l.rest ≡ unfolded l.body

abbrev pub decreases-loop-line : goal.decreases-loop-line
decreases-loop-line l = length l.rest
