use Rattle.std.proofs.Common.{sym, subst, take}
use Rattle.std.proofs.lemmas.List.{take_rest}
use Rattle.mail_header.specs.Parting.{IsParted}
use Rattle.mail_header.proofs.Lines.{parted_from_find, whole_from_find}
use Rattle.mail_header.proofs.header_line.split_crlf.Goals as goal

pub returns-in_err-at-clause-none : goal.returns-in_err-at-clause-none
returns-in_err-at-clause-none c = rw c.from_residual.ensures (whole_from_find c.args.text.now c.in_err-at.ensures)

pub returns-clause-some : goal.returns-clause-some
returns-clause-some c =
    let text = c.args.text.now in
    subst (IsParted text (take c.in_ok-at.at text)) (sym (take_rest text _)) (parted_from_find text c.in_ok-at.at c.in_ok-at.ensures)
