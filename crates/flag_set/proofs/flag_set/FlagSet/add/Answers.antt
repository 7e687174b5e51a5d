use Rattle.std.proofs.Common.{◌≡◌, ℕ, List, ◌⊎◌, ◌↔◌, sym, ap, ◌∙◌, subst}
use Rattle.std.specs.List.{Contains, insert}
use Rattle.flag_set.specs.FlagKey.{IsKey}
use Rattle.flag_set.specs.FlagSet.{IsFlagSet}
use Rattle.flag_set.proofs.Order.{set_put}
use Rattle.flag_set.proofs.Members.{members_put, put_held}
use Rattle.flag_set.proofs.flag_set.FlagSet.add.Goals as goal

pub returns-in_ok-insert-clause-value : goal.returns-in_ok-insert-clause-value
returns-in_ok-insert-clause-value c =
    c.in_ok-insert.ensures.done ∙ ap (λ keys. insert keys c.in-Err.at c.args.key) c.self.view_is ∙ sym c.in-Err.ensures.gap.goes

pub invariant_of-self : goal.invariant_of-self
invariant_of-self c =
    subst IsFlagSet (sym (returns-in_ok-insert-clause-value c))
    (set_put _ _ (subst IsKey c.key.view_is c.key.invariant) c.in-Err.ensures.set)

pub returns-in_ok-insert-clause-members : goal.returns-in_ok-insert-clause-members
returns-in_ok-insert-clause-members c k =
    let P : List (List ℕ) → Type 0 = λ keys. Contains keys k ↔ ((k ≡ c.args.key) ⊎ Contains c.args.self.now k) in
    subst P (sym (returns-in_ok-insert-clause-value c)) (members_put c.args.key c.args.self.now k)

pub returns-in_default-clause-value : goal.returns-in_default-clause-value
returns-in_default-clause-value c = sym (put_held _ _ c.in_default.ensures.set.rising c.in_default.ensures.found)

pub returns-in_default-clause-members : goal.returns-in_default-clause-members
returns-in_default-clause-members c k =
    let P : List (List ℕ) → Type 0 = λ keys. Contains keys k ↔ ((k ≡ c.args.key) ⊎ Contains c.args.self.now k) in
    subst P (sym (returns-in_default-clause-value c)) (members_put c.args.key c.args.self.now k)
