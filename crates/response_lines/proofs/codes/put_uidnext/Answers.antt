use Rattle.response_lines.proofs.LineCodes.{inside_uidnext}
use Rattle.response_lines.proofs.WriteSteps.{on_ok}
use Rattle.response_lines.proofs.codes.put_uidnext.Goals as goal

pub returns-clause-fits : goal.returns-clause-fits
returns-clause-fits c = on_ok c.put_uid.result _ (inside_uidnext c.args.uid c.put_uid.ensures.nonzero c.put_uid.ensures.fits)
