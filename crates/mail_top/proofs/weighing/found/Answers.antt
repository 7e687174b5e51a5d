use Rattle.std.proofs.Common.{subst, sym, ◌∙◌, Option}
use Rattle.std.specs.Prelude.{IsSome}
use Rattle.mailbox_cache.specs.declared.cache.Cache.{Cache}
use Rattle.local_view.specs.Sights.{row_in}
use Rattle.mail_top.proofs.Admitting.{no_target}
use Rattle.mail_top.proofs.weighing.found.Goals as goal

pub returns-in-None : goal.returns-in-None
returns-in-None c =
    let none = no_target _ _ _ (sym c.target_of.ensures ∙ c.in-None.is) in
    let shown = c.in_ok-is_shown.ensures.cached c.if-not-branch.false none.0 none.1 in
    let never = subst (λ (o : Option Cache). IsSome (row_in none.0 o)) none.2 shown in
    absurd (cc never)
