use Rattle.response_lines.proofs.LineSpelled.{enabled_spelled}
use Rattle.response_lines.proofs.WriteSteps.{on_ok}
use Rattle.response_lines.proofs.line.put_enabled.Goals as goal

pub returns-clause-spelled : goal.returns-clause-spelled
returns-clause-spelled c = on_ok c.put_words.result _ (enabled_spelled c.args.words.now c.requires)
