use Rattle.std.proofs.Common.{sym, ap, None}
use Rattle.mail_header.specs.Field.{parted_at}
use Rattle.mail_header.proofs.Colons.{position-is, field-some}
use Rattle.mail_header.proofs.field.Field.of.Goals as goal

pub returns-in_err-at : goal.returns-in_err-at
returns-in_err-at c = rw c.from_residual.ensures (sym (ap (parted_at c.args.line.now) (position-is c.args.line.now None c.in_err-at.ensures)))

pub returns : goal.returns
returns c = field-some c.args.line.now c.in_ok-at.at c.in_ok-at.ensures c.if-at-eq0.false
