use Rattle.std.proofs.Common.{arith}
use Rattle.std.proofs.lemmas.Grind.{common_steps}
use Rattle.flag_set.proofs.Members.{holds_no}
use Rattle.flag_set.proofs.flag_set.FlagSet.holds_none.Goals as goal

pub returns-clause-value : goal.returns-clause-value
returns-clause-value c = grind (arith, common_steps)

pub returns-clause-members : goal.returns-clause-members
returns-clause-members c = holds_no _ _ _ (returns-clause-value c)
