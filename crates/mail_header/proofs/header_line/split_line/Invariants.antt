use Rattle.std.proofs.Common.{length}
use Rattle.mail_header.proofs.Whole.{Reached}
use Rattle.mail_header.proofs.header_line.split_line.Given as goal

abbrev pub invariant-loop-rest : goal.invariant-loop-rest
invariant-loop-rest l = Reached l.text l.end l.rest

abbrev pub decreases-loop-rest : goal.decreases-loop-rest
decreases-loop-rest l = length l.rest
