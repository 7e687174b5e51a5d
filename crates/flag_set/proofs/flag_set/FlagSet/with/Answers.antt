use Rattle.std.proofs.Common.{ℕ, List, ◌⊎◌, ◌↔◌, sym, ap, ◌∙◌, subst}
use Rattle.std.specs.List.{Contains}
use Rattle.flag_set.specs.FlagSet.{IsFlagSet, union}
use Rattle.flag_set.proofs.Members.{members_union}
use Rattle.flag_set.proofs.Order.{set_union}
use Rattle.flag_set.proofs.flag_set.FlagSet.with.Goals as goal

pub returns-clause-value : goal.returns-clause-value
returns-clause-value c =
    c.of.ensures
    ∙ c.in_ok-merged.ensures
    ∙ ap (λ keys. union keys c.keys-2.result.now) c.keys.ensures.value
    ∙ ap (union c.args.self.now) c.keys-2.ensures.value

pub invariant_of-result : goal.invariant_of-result
invariant_of-result c =
    subst IsFlagSet (sym (returns-clause-value c))
    (set_union _ _ c.keys.ensures.set c.keys-2.ensures.set)

pub returns-clause-members : goal.returns-clause-members
returns-clause-members c k =
    let P : List (List ℕ) → Type 0 = λ keys. Contains keys k ↔ (Contains c.args.self.now k ⊎ Contains c.args.other.now k) in
    subst P (sym (returns-clause-value c)) (members_union c.args.self.now c.args.other.now k)
