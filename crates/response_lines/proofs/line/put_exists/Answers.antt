use Rattle.std.proofs.Common.{arith}
use Rattle.response_lines.proofs.LineSpelled.{exists_spelled}
use Rattle.response_lines.proofs.WriteSteps.{on_ok}
use Rattle.response_lines.proofs.line.put_exists.Goals as goal

pub returns-clause-spelled : goal.returns-clause-spelled
returns-clause-spelled c = on_ok c.put-2.result _ (exists_spelled c.args.count (omega arith))
