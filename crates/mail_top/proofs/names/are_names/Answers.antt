use Rattle.std.proofs.Common.{sym, ◌∙◌}
use Rattle.mail_top.proofs.Naming.{names_of_apart, not_none}
use Rattle.mail_top.proofs.names.are_names.Goals as goal

pub returns-then-texts-le-MAX_NAMES : goal.returns-then-texts-le-MAX_NAMES
returns-then-texts-le-MAX_NAMES c =
    let both = c.if-texts-le-MAX_NAMES.true in
    names_of_apart c.args.texts.now c.are_apart.result (not_none _ (sym c.is_empty.ensures ∙ both.0)) both.1 c.are_apart.ensures
