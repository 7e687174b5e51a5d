use Rattle.response_lines.proofs.LineCodes.{inside_capability}
use Rattle.response_lines.proofs.WriteSteps.{on_ok}
use Rattle.response_lines.proofs.codes.put_capabilities.Goals as goal

pub returns-clause-fits : goal.returns-clause-fits
returns-clause-fits c = on_ok c.put_words.result _ (inside_capability c.args.words.now c.requires.0 c.requires.1)
