use Rattle.std.proofs.Common.{arith}
use Rattle.std.proofs.lemmas.Grind.{common_steps}
use Rattle.flag_set.proofs.Members.{is_member}
use Rattle.flag_set.proofs.flag_set.FlagSet.holds.Goals as goal

pub returns-clause-value : goal.returns-clause-value
returns-clause-value c = grind (arith, common_steps)

pub returns-clause-member : goal.returns-clause-member
returns-clause-member c = is_member _ _ _ (returns-clause-value c)
