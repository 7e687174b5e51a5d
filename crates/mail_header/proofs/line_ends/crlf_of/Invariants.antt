use Rattle.std.proofs.Common.{◌≡◌, ◌++◌, length}
use Rattle.mail_header.specs.BareLf as spec
use Rattle.mail_header.proofs.line_ends.crlf_of.Given as goal

abbrev pub invariant-loop-at : goal.invariant-loop-at
invariant-loop-at l = l.text.items ++ spec.crlf_of l.rest ≡ spec.crlf_of l.input

abbrev pub decreases-loop-at : goal.decreases-loop-at
decreases-loop-at l = length l.rest
