use Rattle.imap_command.proofs.Chains.{last_two}
use Rattle.imap_command.proofs.words.put_expunge.Goals as goal

pub returns : goal.returns
returns c = last_two c.uid.result _ _ _ _ _ c.in_ok-put.ensures c.uid.ensures
