use Rattle.imap_command.proofs.Chains.{last_four}
use Rattle.imap_command.proofs.words.put_search.Goals as goal

pub returns : goal.returns
returns c = last_four c.astring.result _ _ _ _ _ _ _ _ _ c.in_ok-put.ensures c.in_ok-uid.ensures c.in_ok-put-2.ensures
    (rw c.as_slice.ensures at c.astring.ensures)
