use Rattle.response_lines.proofs.LineSpelled.{go_spelled}
use Rattle.response_lines.proofs.WriteSteps.{on_ok}
use Rattle.response_lines.proofs.line.put_go.Goals as goal

pub returns-clause-spelled : goal.returns-clause-spelled
returns-clause-spelled c = on_ok c.put.result _ go_spelled
