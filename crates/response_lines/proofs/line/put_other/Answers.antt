use Rattle.response_lines.specs.LineTexts.{other_text}
use Rattle.response_lines.proofs.LineOther.{other_spelled}
use Rattle.response_lines.proofs.WriteSteps.{at_number, on_ok}
use Rattle.response_lines.proofs.line.put_other.Goals as goal

pub returns-in-0-clause-spelled : goal.returns-in-0-clause-spelled
returns-in-0-clause-spelled c = on_ok c.put.result _ (other_spelled c.args.before)

pub returns-in-1-clause-text : goal.returns-in-1-clause-text
returns-in-1-clause-text c = at_number c.put-in-1.result c.put-in-1.new.out.items c.args.out.now.items other_text c.args.before 1 c.in-1.is c.put-in-1.ensures

pub returns-in-1-clause-spelled : goal.returns-in-1-clause-spelled
returns-in-1-clause-spelled c = on_ok c.put-in-1.result _ (other_spelled c.args.before)

pub returns-in_default-clause-spelled : goal.returns-in_default-clause-spelled
returns-in_default-clause-spelled c = on_ok c.put-in_default.result _ (other_spelled c.args.before)
