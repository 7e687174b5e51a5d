use Rattle.mail_top.proofs.Inputs.{nameless_message}
use Rattle.mail_top.proofs.input.identifier.Goals as goal

pub returns-in_err-id : goal.returns-in_err-id
returns-in_err-id c = nameless_message _ _ _ _ c.in_err-id.was c.from_residual.ensures.1 c.message_id.ensures.found
