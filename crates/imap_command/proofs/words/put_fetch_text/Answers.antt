use Rattle.imap_command.proofs.Chains.{last_three}
use Rattle.imap_command.proofs.words.put_fetch_text.Goals as goal

pub returns : goal.returns
returns c = last_three c.put-2.result _ _ _ _ _ _ _ c.in_ok-put.ensures c.in_ok-uid.ensures c.put-2.ensures
