use Rattle.imap_model.proofs.SameCommand.{one_text}
use Rattle.imap_model.proofs.laws.one_text.Goals as goal

pub returns : goal.returns
returns c = one_text
