use Rattle.std.proofs.Common.{subst, ℕ, List, ◌∷◌}
use Rattle.std.specs.Prelude.{codes}
use Rattle.mail_top.specs.Words.{WritesAppend}
use Rattle.mail_top.proofs.Naming.{one_first}
use Rattle.mail_top.proofs.words.append_asked.Goals as goal

pub returns-in-len1-up-clause-none : goal.returns-in-len1-up-clause-none
returns-in-len1-up-clause-none c none addition writes =
    c.addition_asked.ensures.none none addition
    (subst (λ (words : List (List ℕ)). WritesAppend (codes "append" ∷ words) addition)
    (one_first c.args.arguments.now _ _ c.in-len1-up.len_at_least c.name-item.is c.as_str.ensures.value) writes)
