use Rattle.journal_core.proofs.Looking.{looks, looks_then}
use Rattle.journal_core.proofs.reading.read_front.Goals as goal

pub returns-in_err-count-clause-told : goal.returns-in_err-count-clause-told
returns-in_err-count-clause-told g c tells = looks _ _ _ _ (c.read.ensures.told tells)

pub returns-in_err-total-clause-told : goal.returns-in_err-total-clause-told
returns-in_err-total-clause-told g c tells = looks_then _ _ _ _ _ _ (looks _ _ _ _ (c.in_ok-count.ensures.told tells))
    (looks _ _ _ _ (c.length.ensures.told tells))

pub returns-clause-told : goal.returns-clause-told
returns-clause-told g c tells = looks_then _ _ _ _ _ _ (looks _ _ _ _ (c.in_ok-count.ensures.told tells)) (looks _ _ _ _ (c.in_ok-total.ensures.told tells))
