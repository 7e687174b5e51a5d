use Rattle.response_lines.proofs.LineCodes.{inside_modified}
use Rattle.response_lines.proofs.WriteSteps.{on_ok}
use Rattle.response_lines.proofs.codes.put_modified.Goals as goal

pub returns-clause-fits : goal.returns-clause-fits
returns-clause-fits c = on_ok c.put_set.result _ (inside_modified c.args.uids.now c.put_set.ensures.canonical c.requires)
