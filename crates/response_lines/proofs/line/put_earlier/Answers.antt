use Rattle.std.proofs.Common.{true}
use Rattle.response_lines.proofs.LineSpelled.{vanished_spelled}
use Rattle.response_lines.proofs.WriteSteps.{last_two, on_ok}
use Rattle.response_lines.proofs.line.put_earlier.Goals as goal

pub returns-clause-text : goal.returns-clause-text
returns-clause-text c = last_two c.put_set.result c.args.out.now.items _ _ _ _ c.in_ok-put.ensures c.put_set.ensures.text

pub returns-clause-spelled : goal.returns-clause-spelled
returns-clause-spelled c = on_ok c.put_set.result _ (vanished_spelled true c.args.uids.now c.put_set.ensures.canonical c.requires)
