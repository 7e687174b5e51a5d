use Rattle.std.proofs.lemmas.Result.{err_from_is_err_and}
use Rattle.journal_core.proofs.AsideStays.{aside_then, aside_write, aside_sync}
use Rattle.journal_core.proofs.DraftOpens.{opens1, opens2, opens3}
use Rattle.journal_core.proofs.drafting.open_draft.Goals as goal

pub returns-in_err-sync-clause-told : goal.returns-in_err-sync-clause-told
returns-in_err-sync-clause-told g c tells others front fresh d next =
    let p = err_from_is_err_and c.from_residual.result c.from_residual.ensures.1 in
    opens1 c.args.side others front fresh _ next _ _ _ _ d _ _ p.0 p.1 (c.sync.ensures.told tells)

pub returns-in_err-write_at-clause-told : goal.returns-in_err-write_at-clause-told
returns-in_err-write_at-clause-told g c tells others front fresh d next =
    let p = err_from_is_err_and c.from_residual-in_err-write_at.result c.from_residual-in_err-write_at.ensures.1 in
    opens2 c.args.side others front fresh _ next _ _ _ _ _ _ d _ _ _ p.0 p.1 (c.in_ok-sync.ensures.told tells) (c.write_at.ensures.told tells)

pub returns-clause-told : goal.returns-clause-told
returns-clause-told g c tells others front fresh d next =
    opens3 c.args.side others front fresh _ next _ _ _ _ _ _ _ _ d _ _ _ (c.in_ok-sync.ensures.told tells) (c.in_ok-write_at.ensures.told tells)
    (c.sync-2.ensures.told tells)

pub returns-in_err-sync-clause-aside : goal.returns-in_err-sync-clause-aside
returns-in_err-sync-clause-aside g c tells = aside_sync c.args.side _ _ _ _ _ (c.sync.ensures.told tells)

pub returns-in_err-write_at-clause-aside : goal.returns-in_err-write_at-clause-aside
returns-in_err-write_at-clause-aside g c tells = aside_then c.args.side _ _ _
    (aside_sync c.args.side _ _ _ _ _ (c.in_ok-sync.ensures.told tells)) (aside_write c.args.side _ _ _ _ _ _ _ (c.write_at.ensures.told tells))

pub returns-clause-aside : goal.returns-clause-aside
returns-clause-aside g c tells = aside_then c.args.side _ _ _
    (aside_then c.args.side _ _ _
    (aside_sync c.args.side _ _ _ _ _ (c.in_ok-sync.ensures.told tells)) (aside_write c.args.side _ _ _ _ _ _ _ (c.in_ok-write_at.ensures.told tells)))
    (aside_sync c.args.side _ _ _ _ _ (c.sync-2.ensures.told tells))
