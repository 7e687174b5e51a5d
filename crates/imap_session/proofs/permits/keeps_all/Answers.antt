use Rattle.std.proofs.Common.{sym}
use Rattle.imap_session.proofs.Kept.{all_kept}
use Rattle.imap_session.proofs.permits.keeps_all.Goals as goal

pub returns-in-None : goal.returns-in-None
returns-in-None c = sym (all_kept _ _ c.in-None.is)
