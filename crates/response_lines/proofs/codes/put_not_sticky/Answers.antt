use Rattle.response_lines.proofs.LineCodes.{inside_not_sticky}
use Rattle.response_lines.proofs.WriteSteps.{on_ok}
use Rattle.response_lines.proofs.codes.put_not_sticky.Goals as goal

pub returns-clause-text : goal.returns-clause-text
returns-clause-text c = c.put.ensures

pub returns-clause-fits : goal.returns-clause-fits
returns-clause-fits c = on_ok c.put.result _ inside_not_sticky
