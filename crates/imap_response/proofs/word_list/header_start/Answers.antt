use Rattle.std.proofs.Common.{Some, ap, sym, ◌∙◌}
use Rattle.imap_response.proofs.spelling.Headers.{start_is, none_header}
use Rattle.imap_response.proofs.word_list.header_start.Goals as goal

pub returns-in-Some : goal.returns-in-Some
returns-in-Some c = let found = c.in-Some.ensures.found in ap Some found.2.at ∙ start_is c.args.text.now found.0 found.1 found.2.number found.2.text

pub returns-in-None : goal.returns-in-None
returns-in-None c = sym (none_header c.args.text.now 0 (λ ends. c.in-None.ensures.none ends.0 ends.1 ends.2 ends.3))
