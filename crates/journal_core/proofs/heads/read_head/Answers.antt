use Rattle.journal_core.proofs.HeadBytes.{read_head_is}
use Rattle.journal_core.proofs.Looking.{looks}
use Rattle.journal_core.proofs.heads.read_head.Goals as goal

pub returns-in_err-count-clause-told : goal.returns-in_err-count-clause-told
returns-in_err-count-clause-told g c tells = looks _ _ _ _ (c.read.ensures.told tells)

pub returns-clause-value : goal.returns-clause-value
returns-clause-value g c tells = read_head_is _ _ _ (c.in_ok-count.ensures.value tells) _ (c.in_ok-count.ensures.bytes tells) c.head_in.ensures

pub returns-clause-told : goal.returns-clause-told
returns-clause-told g c tells = looks _ _ _ _ (c.in_ok-count.ensures.told tells)
