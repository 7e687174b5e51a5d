use Rattle.imap_response.proofs.SetLemmas.{set_read}
use Rattle.imap_response.proofs.leaf.set_in.Goals as goal

pub returns-in-Ok : goal.returns-in-Ok
returns-in-Ok c = set_read _ _ _ _ c.wide.ensures c.in-Ok.ensures.value
