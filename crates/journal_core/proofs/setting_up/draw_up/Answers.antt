use Rattle.std.proofs.lemmas.Result.{err_from_is_err_and}
use Rattle.journal_core.specs.Sides.{version_written}
use Rattle.journal_core.proofs.AsideStays.{aside_then}
use Rattle.journal_core.proofs.DrawnUp.{drawn1, drawn2, drawn3}
use Rattle.journal_core.proofs.setting_up.draw_up.Goals as goal

pub returns-in_err-first-clause-told : goal.returns-in_err-first-clause-told
returns-in_err-first-clause-told g c tells =
    let p = err_from_is_err_and c.from_residual.result c.from_residual.ensures.1 in
    drawn1 c.args.side version_written _ c.args.bodies.now _ _ (g.D.Clocked.clock c.args.disk.now) (g.D.Clocked.clock c.args.disk.now) _ _
    (g.D.Disk.seen c.args.disk.now) (g.D.Disk.seen c.args.disk.now) _ _ p.0 p.1 (c.begin_draft.ensures.told tells)

pub returns-in_err-end-clause-told : goal.returns-in_err-end-clause-told
returns-in_err-end-clause-told g c tells =
    let p = err_from_is_err_and c.from_residual-in_err-end.result c.from_residual-in_err-end.ensures.1 in
    drawn2 c.args.side version_written _ c.args.bodies.now _ _ _ (g.D.Clocked.clock c.args.disk.now) _ _ _ (g.D.Disk.seen c.args.disk.now) _
    (c.in_ok-first.ensures.told tells) c.in_ok-first.first c.in_ok-first.ensures.value _ _ p.0 p.1 (c.put_records.ensures.told tells)

pub returns-clause-told : goal.returns-clause-told
returns-clause-told g c tells =
    drawn3 c.args.side version_written _ c.args.bodies.now _ _ _ _ _ _ _ _ _
    (c.in_ok-first.ensures.told tells) c.in_ok-first.first c.in_ok-first.ensures.value _ (c.in_ok-end.ensures.told tells) _ c.in_ok-end.ensures.value _
    (c.end_draft.ensures.told tells)

pub returns-in_err-end-clause-aside : goal.returns-in_err-end-clause-aside
returns-in_err-end-clause-aside g c tells = aside_then c.args.side _ _ _ (c.in_ok-first.ensures.aside tells) (c.put_records.ensures.aside tells)

pub returns-clause-aside : goal.returns-clause-aside
returns-clause-aside g c tells = aside_then c.args.side _ _ _
    (aside_then c.args.side _ _ _ (c.in_ok-first.ensures.aside tells) (c.in_ok-end.ensures.aside tells)) (c.end_draft.ensures.aside tells)
