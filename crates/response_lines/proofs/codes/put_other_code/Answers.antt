use Rattle.response_lines.proofs.LineCodes.{inside_other}
use Rattle.response_lines.proofs.WriteSteps.{on_ok}
use Rattle.response_lines.proofs.codes.put_other_code.Goals as goal

pub returns-in-Ok-clause-fits : goal.returns-in-Ok-clause-fits
returns-in-Ok-clause-fits c = on_ok c.put.result _ (inside_other c.args.ending)

pub returns-in-No-clause-fits : goal.returns-in-No-clause-fits
returns-in-No-clause-fits c = on_ok c.put-in-No.result _ (inside_other c.args.ending)

pub returns-in-Bad-clause-fits : goal.returns-in-Bad-clause-fits
returns-in-Bad-clause-fits c = on_ok c.put-in-Bad.result _ (inside_other c.args.ending)
