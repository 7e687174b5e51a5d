use Rattle.imap_model.proofs.PlainCase.{plain_case}
use Rattle.imap_model.proofs.laws.plain_server_is_lawful.Goals as goal

pub returns : goal.returns
returns c = λ choices selected tag command s w. plain_case tag s w choices selected command
