use Rattle.mail_header.proofs.Verdicts.{bad_form}
use Rattle.mail_header.proofs.identifier.message_id.Goals as goal

pub returns-clause-bad_form : goal.returns-clause-bad_form
returns-clause-bad_form c = bad_form (λ id. id.items) c.args.text.now c.found.result c.found.ensures.value c.found.ensures.why
