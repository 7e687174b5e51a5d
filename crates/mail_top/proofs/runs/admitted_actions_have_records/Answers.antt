use Rattle.mail_top.proofs.Admitting.{admitted_writable}
use Rattle.mail_top.proofs.Goings.{few_asked}
use Rattle.mail_top.proofs.runs.admitted_actions_have_records.Goals as goal

pub returns : goal.returns
returns c words input wanted b id action asks admits = admitted_writable wanted b id action (few_asked words input wanted asks) admits
