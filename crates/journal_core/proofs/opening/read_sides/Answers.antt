use Rattle.journal_core.proofs.Looking.{looks_then}
use Rattle.journal_core.proofs.Syncing.{syncs_look}
use Rattle.journal_core.proofs.opening.read_sides.Goals as goal

pub returns-in_err-left-clause-syncs : goal.returns-in_err-left-clause-syncs
returns-in_err-left-clause-syncs g c tells = syncs_look _ _ _ _ _ _ (c.in_ok-settle_both.ensures.syncs tells) (c.read_head.ensures.told tells)

pub returns-in_err-right-clause-syncs : goal.returns-in_err-right-clause-syncs
returns-in_err-right-clause-syncs g c tells = syncs_look _ _ _ _ _ _ (c.in_ok-settle_both.ensures.syncs tells)
    (looks_then _ _ _ _ _ _ (c.in_ok-left.ensures.told tells) (c.read_head-2.ensures.told tells))

pub returns-clause-syncs : goal.returns-clause-syncs
returns-clause-syncs g c tells = syncs_look _ _ _ _ _ _ (c.in_ok-settle_both.ensures.syncs tells)
    (looks_then _ _ _ _ _ _ (c.in_ok-left.ensures.told tells) (c.in_ok-right.ensures.told tells))
