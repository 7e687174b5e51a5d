use Rattle.mail_top.proofs.Wording.{one_request}
use Rattle.mail_top.proofs.runs.words_ask_one_thing.Goals as goal

pub returns : goal.returns
returns c = one_request
