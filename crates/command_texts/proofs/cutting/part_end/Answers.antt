use Rattle.std.proofs.Common.{◌∙◌, ap, sym, arith, take}
use Rattle.std.proofs.lemmas.List.{take_rest}
use Rattle.command_texts.proofs.DueEnds.{whole_part}
use Rattle.command_texts.proofs.cutting.part_end.Goals as goal

pub returns-clause-part : goal.returns-clause-part
returns-clause-part c =
    let bytes = c.args.bytes.now in
    let due = c.octets_due-due.result in
    let line = c.in_ok-end.ensures.line in
    whole_part c.args.parts.now bytes line.0 due c.in_ok-end.end c.octets_due-due.ensures (omega (arith, c.type_inv.bytes))
    (omega (arith, c.if-due-bytes.false))
    line.1 (ap (take c.in_ok-end.end) (sym (take_rest bytes due)) ∙ line.2)
