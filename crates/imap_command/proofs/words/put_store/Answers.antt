use Rattle.imap_command.proofs.Chains.{last_three, last_four}
use Rattle.imap_command.proofs.words.put_store.Goals as goal

pub returns : goal.returns
returns c =
    last_four c.put-5.result _ _ _ _ _ _ _ _ _ c.in_ok-put.ensures c.in_ok-uid.ensures c.in_ok-put-2.ensures
    (last_four c.put-5.result _ _ _ _ _ _ _ _ _ c.in_ok-modseq.ensures c.in_ok-put-3.ensures c.in_ok-put_sign.ensures
    (last_three c.put-5.result _ _ _ _ _ _ _ c.in_ok-put-4.ensures c.in_ok-flags.ensures c.put-5.ensures))
