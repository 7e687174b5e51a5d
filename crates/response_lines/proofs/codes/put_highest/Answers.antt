use Rattle.response_lines.proofs.LineCodes.{inside_highest}
use Rattle.response_lines.proofs.WriteSteps.{on_ok}
use Rattle.response_lines.proofs.codes.put_highest.Goals as goal

pub returns-clause-fits : goal.returns-clause-fits
returns-clause-fits c = on_ok c.put_modseq.result _ (inside_highest c.args.modseq c.put_modseq.ensures.nonzero c.put_modseq.ensures.fits)
