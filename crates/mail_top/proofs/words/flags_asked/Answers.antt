use Rattle.std.proofs.Common.{subst, ℕ, List, ◌∷◌}
use Rattle.std.specs.Prelude.{codes}
use Rattle.mail_top.specs.Words.{WritesFlag}
use Rattle.mail_top.proofs.Naming.{three_first}
use Rattle.mail_top.proofs.words.flags_asked.Goals as goal

pub returns-in-len3-up-clause-none : goal.returns-in-len3-up-clause-none
returns-in-len3-up-clause-none c none change writes =
    c.change_asked.ensures.none none change
    (subst (λ (words : List (List ℕ)). WritesFlag (codes "flag" ∷ words) change)
    (three_first c.args.arguments.now _ _ _ _ _ _ c.in-len3-up.len_at_least c.name-item.is c.id-item.is c.sign-item.is
    c.as_str.ensures.value c.as_str-in-len3-up.ensures.value c.as_str-in-len3-up-2.ensures.value) writes)
