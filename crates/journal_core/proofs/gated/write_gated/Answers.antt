use Rattle.std.proofs.lemmas.Result.{err_from_is_err_and}
use Rattle.journal_core.proofs.AsideStays.{aside_then, aside_write, aside_sync}
use Rattle.journal_core.proofs.Exits.{told1, told2, told3, told4}
use Rattle.journal_core.proofs.gated.write_gated.Goals as goal

pub returns-in_err-write_at-clause-told : goal.returns-in_err-write_at-clause-told
returns-in_err-write_at-clause-told g c tells =
    let p = err_from_is_err_and c.from_residual.result c.from_residual.ensures.1 in
    told1 _ _ _ _ _ _ _ _ _ p.0 p.1 (c.write_at.ensures.told tells)

pub returns-in_err-sync-clause-told : goal.returns-in_err-sync-clause-told
returns-in_err-sync-clause-told g c tells =
    let p = err_from_is_err_and c.from_residual-in_err-sync.result c.from_residual-in_err-sync.ensures.1 in
    told2 _ _ _ _ _ _ _ _ _ _ _ _ p.0 p.1 (c.in_ok-write_at.ensures.told tells) (c.sync.ensures.told tells)

pub returns-in_err-write_at-2-clause-told : goal.returns-in_err-write_at-2-clause-told
returns-in_err-write_at-2-clause-told g c tells =
    let p = err_from_is_err_and c.from_residual-in_err-write_at-2.result c.from_residual-in_err-write_at-2.ensures.1 in
    told3 _ _ _ _ _ _ _ _ _ _ _ _ _ _ _ p.0 p.1 (c.in_ok-write_at.ensures.told tells) (c.in_ok-sync.ensures.told tells) (c.write_at-2.ensures.told tells)

pub returns-clause-told : goal.returns-clause-told
returns-clause-told g c tells =
    told4 _ _ _ _ _ _ _ _ _ _ _ _ _ _ _ _ _ (c.in_ok-write_at.ensures.told tells) (c.in_ok-sync.ensures.told tells)
    (c.in_ok-write_at-2.ensures.told tells) (c.sync-2.ensures.told tells)

pub returns-in_err-write_at-clause-aside : goal.returns-in_err-write_at-clause-aside
returns-in_err-write_at-clause-aside g c tells = aside_write c.args.side _ _ _ _ _ _ _ (c.write_at.ensures.told tells)

pub returns-in_err-sync-clause-aside : goal.returns-in_err-sync-clause-aside
returns-in_err-sync-clause-aside g c tells = aside_then c.args.side _ _ _
    (aside_write c.args.side _ _ _ _ _ _ _ (c.in_ok-write_at.ensures.told tells)) (aside_sync c.args.side _ _ _ _ _ (c.sync.ensures.told tells))

pub returns-in_err-write_at-2-clause-aside : goal.returns-in_err-write_at-2-clause-aside
returns-in_err-write_at-2-clause-aside g c tells = aside_then c.args.side _ _ _
    (aside_then c.args.side _ _ _
    (aside_write c.args.side _ _ _ _ _ _ _ (c.in_ok-write_at.ensures.told tells)) (aside_sync c.args.side _ _ _ _ _ (c.in_ok-sync.ensures.told tells)))
    (aside_write c.args.side _ _ _ _ _ _ _ (c.write_at-2.ensures.told tells))

pub returns-clause-aside : goal.returns-clause-aside
returns-clause-aside g c tells = aside_then c.args.side _ _ _
    (aside_then c.args.side _ _ _
    (aside_then c.args.side _ _ _
    (aside_write c.args.side _ _ _ _ _ _ _ (c.in_ok-write_at.ensures.told tells)) (aside_sync c.args.side _ _ _ _ _ (c.in_ok-sync.ensures.told tells)))
    (aside_write c.args.side _ _ _ _ _ _ _ (c.in_ok-write_at-2.ensures.told tells)))
    (aside_sync c.args.side _ _ _ _ _ (c.sync-2.ensures.told tells))
