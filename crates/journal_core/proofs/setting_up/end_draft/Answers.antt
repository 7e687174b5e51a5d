use Rattle.std.proofs.lemmas.Result.{err_from_is_err_and}
use Rattle.journal_core.proofs.AsideStays.{aside_then}
use Rattle.journal_core.proofs.DrawnUp.{ends, ends_not}
use Rattle.journal_core.proofs.setting_up.end_draft.Goals as goal

pub returns-in_err-put_more-clause-told : goal.returns-in_err-put_more-clause-told
returns-in_err-put_more-clause-told g c tells others fresh d next =
    let p = err_from_is_err_and c.from_residual.result c.from_residual.ensures.1 in
    ends_not c.args.side _ _ _ (g.D.Clocked.clock c.args.disk.now) _ _ (g.D.Disk.seen c.args.disk.now) others fresh d next _ _ p.0 p.1 (c.put_more.ensures.told tells)

pub returns-clause-told : goal.returns-clause-told
returns-clause-told g c tells others fresh d next =
    ends c.args.side _ _ _ _ _ _ _ others fresh d next _ _ (c.in_ok-put_more.ensures.told tells) (c.open_draft.ensures.told tells)

pub returns-clause-aside : goal.returns-clause-aside
returns-clause-aside g c tells = aside_then c.args.side _ _ _ (c.in_ok-put_more.ensures.aside tells) (c.open_draft.ensures.aside tells)
