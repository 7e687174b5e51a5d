use Rattle.std.proofs.Common.{arith, sym}
use Rattle.std.proofs.lemmas.Bool.{eqb-true, eqb-false}
use Rattle.mail_header.proofs.BareLfs.{end_of-cr, end_of-other}
use Rattle.mail_header.proofs.line_ends.missing_end.Goals as goal
use Rattle.mail_header.proofs.line_ends.missing_end.Goals.{else-not-is_empty-via-then-not-is_empty+else-line-eq13, else-not-is_empty-via-else-not-is_empty}

pub returns-then-line-eq13 : goal.returns-then-line-eq13
returns-then-line-eq13 c = end_of-cr c.args.line.now (omega (arith, eqb-false _ 0 (sym c.if-not-is_empty.ensures))) c.if-line-eq13.true

pub returns-else-not-is_empty : goal.returns-else-not-is_empty
returns-else-not-is_empty c = end_of-other c.args.line.now (elim c.else-not-is_empty.branch [
  | else-not-is_empty-via-then-not-is_empty+else-line-eq13 w ↦ λ some cr. w.if-line-eq13.false cr
  | else-not-is_empty-via-else-not-is_empty w ↦ λ some cr. omega (arith, some, eqb-true _ 0 (sym w.if-not-is_empty.ensures))
])
