use Rattle.std.proofs.Common.{arith}
use Rattle.std.proofs.lemmas.Grind.{common_steps}
use Rattle.flag_set.proofs.Keys.{keys_same}
use Rattle.flag_set.proofs.flag_key.FlagKeyPartialEq.eq.Goals as goal

pub returns-clause-value : goal.returns-clause-value
returns-clause-value c = grind (arith, common_steps)

pub returns-clause-same : goal.returns-clause-same
returns-clause-same c = keys_same _ _ _ (returns-clause-value c)
