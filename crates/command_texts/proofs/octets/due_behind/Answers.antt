use Rattle.command_texts.proofs.DueEnds.{no_header, tells_header}
use Rattle.command_texts.proofs.octets.due_behind.Goals as goal

pub returns-in-Some-literal_at_end : goal.returns-in-Some-literal_at_end
returns-in-Some-literal_at_end c =
    let found = c.in-Some-literal_at_end.ensures.found in
    tells_header c.args.part.now c.in-Some.line.now found.0 found.1 c.in-Some-literal_at_end.header.octets
    c.in-Some.ensures.cut found.2.number found.2.text found.2.octets

pub returns-in-None : goal.returns-in-None
returns-in-None c = no_header c.args.part.now c.in-Some.line.now c.in-Some.ensures.cut c.in-None.ensures.none
