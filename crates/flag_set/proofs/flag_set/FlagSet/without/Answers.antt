use Rattle.std.proofs.Common.{ℕ, List, ◌↔◌, sym, ap, ◌∙◌, subst}
use Rattle.std.specs.List.{Contains}
use Rattle.flag_set.specs.FlagSet.{IsFlagSet, minus}
use Rattle.flag_set.proofs.Members.{members_minus, set_minus}
use Rattle.flag_set.proofs.flag_set.FlagSet.without.Goals as goal

pub returns-clause-value : goal.returns-clause-value
returns-clause-value c = c.of.ensures ∙ c.in_ok-lacking.ensures ∙ ap (λ keys. minus keys c.args.other.now) c.keys.ensures.value

pub invariant_of-result : goal.invariant_of-result
invariant_of-result c =
    subst IsFlagSet (sym (returns-clause-value c)) (set_minus _ _ (subst IsFlagSet c.self.view_is c.self.invariant))

pub returns-clause-members : goal.returns-clause-members
returns-clause-members c k =
    let P : List (List ℕ) → Type 0 = λ keys. Contains keys k ↔ (Contains c.args.self.now k × (¬ Contains c.args.other.now k)) in
    subst P (sym (returns-clause-value c)) (members_minus c.args.self.now c.args.other.now k)
