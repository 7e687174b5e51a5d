use Rattle.mail_top.proofs.Inputs.{unread_message}
use Rattle.mail_top.proofs.input.message.Goals as goal

pub returns-in_err-given-clause-value : goal.returns-in_err-given-clause-value
returns-in_err-given-clause-value g c =
    let given = c.read_input.ensures.value in
    (given.0, given.1, unread_message given.0 _ _ _ c.in_err-given.was c.from_residual.ensures.1 given.2)
