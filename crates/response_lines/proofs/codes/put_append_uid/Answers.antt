use Rattle.response_lines.proofs.LineCodes.{inside_append}
use Rattle.response_lines.proofs.WriteSteps.{on_ok}
use Rattle.response_lines.proofs.codes.put_append_uid.Goals as goal

pub returns-clause-fits : goal.returns-clause-fits
returns-clause-fits c = on_ok c.put_uid.result _
    (inside_append c.args.validity c.args.uid c.put_validity.ensures.nonzero c.put_validity.ensures.fits c.put_uid.ensures.nonzero c.put_uid.ensures.fits)
