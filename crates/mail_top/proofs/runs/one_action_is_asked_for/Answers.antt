use Rattle.mail_top.proofs.Admitting.{one_action, action_by_boxes}
use Rattle.mail_top.proofs.runs.one_action_is_asked_for.Goals as goal

pub returns-clause-one : goal.returns-clause-one
returns-clause-one c = one_action

pub returns-clause-boxes : goal.returns-clause-boxes
returns-clause-boxes c = action_by_boxes
