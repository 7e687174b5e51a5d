use Rattle.std.proofs.Common.{◌∙◌, ap}
use Rattle.imap_model.specs.Astring.{astring_parts}
use Rattle.imap_model.specs.CommandParts.{◌⌢◌}
use Rattle.command_texts.proofs.CommandReading.{mark_end, mark_ends, mark_is, mark_found, select_same}
use Rattle.command_texts.proofs.reading.candidates.select.Goals as goal

pub returns-in-Some : goal.returns-in-Some
returns-in-Some c = λ name since is_name held is.
    let x = rw c.in-Some.is at (c.in_ok-name.ensures name (mark_end since) is_name (mark_ends since) (is ∙ ap (λ p. astring_parts name ⌢ p) (mark_is since))) in
    select_same _ _ name since x.0 (mark_found since _ _ held x.1 c.mark_of.ensures.none c.mark_of.ensures.some)

pub returns-in-None : goal.returns-in-None
returns-in-None c = λ name since is_name held is.
    absurd (rw c.in-None.is at (c.in_ok-name.ensures name (mark_end since) is_name (mark_ends since) (is ∙ ap (λ p. astring_parts name ⌢ p) (mark_is since))))
