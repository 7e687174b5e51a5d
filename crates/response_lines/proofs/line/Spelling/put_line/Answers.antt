use Rattle.response_lines.proofs.WriteSteps.{on_ok}
use Rattle.response_lines.proofs.line.Spelling.put_line.Goals as goal

pub returns-clause-spelled : goal.returns-clause-spelled
returns-clause-spelled c = on_ok c.put.result _ c.in_ok-put_text.ensures.spelled
