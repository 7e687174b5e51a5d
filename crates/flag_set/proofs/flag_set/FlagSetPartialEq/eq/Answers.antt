use Rattle.std.proofs.Common.{arith, subst}
use Rattle.std.proofs.lemmas.Grind.{common_steps}
use Rattle.flag_set.specs.FlagSet.{IsFlagSet}
use Rattle.flag_set.proofs.Members.{has_same_members, is_same}
use Rattle.flag_set.proofs.flag_set.FlagSetPartialEq.eq.Goals as goal

pub returns-clause-value : goal.returns-clause-value
returns-clause-value c = grind (arith, common_steps)

pub returns-clause-same : goal.returns-clause-same
returns-clause-same c = is_same _ _ _ (returns-clause-value c)

pub returns-clause-members : goal.returns-clause-members
returns-clause-members c =
    has_same_members _ _ _ (subst IsFlagSet c.self.view_is c.self.invariant).rising
    (subst IsFlagSet c.other.view_is c.other.invariant).rising (returns-clause-value c)
