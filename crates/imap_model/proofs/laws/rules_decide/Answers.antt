use Rattle.imap_model.proofs.Possible.{plain_changes, possible_unbroken}
use Rattle.imap_model.proofs.laws.rules_decide.Goals as goal

pub returns : goal.returns
returns c = record { possible = plain_changes; unbroken = possible_unbroken }
