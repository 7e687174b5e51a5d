use Rattle.mail_top.proofs.Renewals.{may_be_renewed, renews_selected}
use Rattle.mail_top.proofs.runs.mailboxes_may_be_renewed.Goals as goal

pub returns-clause-any : goal.returns-clause-any
returns-clause-any c = may_be_renewed

pub returns-clause-selected : goal.returns-clause-selected
returns-clause-selected c = renews_selected
