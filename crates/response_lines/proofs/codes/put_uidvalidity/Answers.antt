use Rattle.response_lines.proofs.LineCodes.{inside_validity}
use Rattle.response_lines.proofs.WriteSteps.{last_two, on_ok}
use Rattle.response_lines.proofs.codes.put_uidvalidity.Goals as goal

pub returns-clause-fits : goal.returns-clause-fits
returns-clause-fits c = on_ok c.put_validity.result _ (inside_validity c.args.validity c.put_validity.ensures.nonzero c.put_validity.ensures.fits)

pub returns-clause-text : goal.returns-clause-text
returns-clause-text c = last_two c.put_validity.result c.args.out.now.items _ _ _ _ c.in_ok-put.ensures c.put_validity.ensures.text
