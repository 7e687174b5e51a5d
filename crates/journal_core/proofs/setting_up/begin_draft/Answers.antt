use Rattle.std.proofs.lemmas.Result.{err_from_is_err_and}
use Rattle.journal_core.proofs.AsideStays.{aside_then}
use Rattle.journal_core.proofs.DrawnUp.{begins, begins_not}
use Rattle.journal_core.proofs.setting_up.begin_draft.Goals as goal

pub returns-in_err-close_head-clause-told : goal.returns-in_err-close_head-clause-told
returns-in_err-close_head-clause-told g c tells =
    let p = err_from_is_err_and c.from_residual.result c.from_residual.ensures.1 in
    begins_not _ _ _ _ (g.D.Clocked.clock c.args.disk.now) _ _ (g.D.Disk.seen c.args.disk.now) _ _ p.0 p.1 (c.close_head.ensures.told tells)

pub returns-clause-told : goal.returns-clause-told
returns-clause-told g c tells = begins _ _ _ _ _ _ _ _ _ _ (c.in_ok-close_head.ensures.told tells) (c.put_header.ensures.told tells)

pub returns-clause-aside : goal.returns-clause-aside
returns-clause-aside g c tells = aside_then c.args.side _ _ _
    (c.in_ok-close_head.ensures.aside tells) (c.put_header.ensures.aside tells)
