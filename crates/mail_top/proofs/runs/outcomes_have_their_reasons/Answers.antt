use Rattle.mail_top.proofs.TrueOutcomes.{outcomes_true}
use Rattle.mail_top.proofs.TrueRuns.{true_so_far}
use Rattle.mail_top.proofs.runs.outcomes_have_their_reasons.Goals as goal

pub returns-clause-so_far : goal.returns-clause-so_far
returns-clause-so_far c = true_so_far

pub returns-clause-truly : goal.returns-clause-truly
returns-clause-truly c = outcomes_true
