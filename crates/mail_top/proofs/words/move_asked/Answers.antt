use Rattle.std.proofs.Common.{subst, ℕ, List, ◌∷◌, arith}
use Rattle.std.specs.Prelude.{codes}
use Rattle.mail_top.specs.Words.{WritesMove}
use Rattle.mail_top.proofs.Naming.{three_only}
use Rattle.mail_top.proofs.words.move_asked.Goals as goal

pub returns-in-len3-clause-none : goal.returns-in-len3-clause-none
returns-in-len3-clause-none c none transfer writes =
    c.transfer_asked.ensures.none none transfer
    (subst (λ (words : List (List ℕ)). WritesMove (codes "move" ∷ words) transfer)
    (three_only c.args.arguments.now _ _ _ _ _ _ c.in-len3.len_at_least (omega (arith, c.in-len3.len_below)) c.name-item.is c.id-item.is c.to-item.is
    c.as_str.ensures.value c.as_str-in-len3.ensures.value c.as_str-in-len3-2.ensures.value) writes)
