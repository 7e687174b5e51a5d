use Rattle.std.proofs.Common.{false}
use Rattle.response_lines.proofs.LineSpelled.{vanished_spelled}
use Rattle.response_lines.proofs.WriteSteps.{on_ok}
use Rattle.response_lines.proofs.line.put_gone.Goals as goal

pub returns-clause-spelled : goal.returns-clause-spelled
returns-clause-spelled c = on_ok c.put_set.result _ (vanished_spelled false c.args.uids.now c.put_set.ensures.canonical c.requires)
