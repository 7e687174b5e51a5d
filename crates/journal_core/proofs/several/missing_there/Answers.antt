use Rattle.journal_core.proofs.Looking.{looks}
use Rattle.journal_core.proofs.several.missing_there.Goals as goal

pub returns-in_err-total-clause-told : goal.returns-in_err-total-clause-told
returns-in_err-total-clause-told g c tells = looks _ _ _ _ (c.length.ensures.told tells)

pub returns-then-saturating_sub-missing-clause-told : goal.returns-then-saturating_sub-missing-clause-told
returns-then-saturating_sub-missing-clause-told g c tells = looks _ _ _ _ (c.length.ensures.told tells)

pub returns-clause-told : goal.returns-clause-told
returns-clause-told g c tells = looks _ _ _ _ (c.length.ensures.told tells)
