use Rattle.std.proofs.lemmas.Result.{err_from_is_err_and}
use Rattle.journal_core.proofs.AsideStays.{aside_write}
use Rattle.journal_core.proofs.DraftWrites.{drafted, not_drafted}
use Rattle.journal_core.proofs.drafting.put_more.Goals as goal

pub returns-in_err-write_at-clause-told : goal.returns-in_err-write_at-clause-told
returns-in_err-write_at-clause-told g c tells =
    let p = err_from_is_err_and c.from_residual.result c.from_residual.ensures.1 in
    not_drafted _ _ _ _ _ _ _ _ _ p.0 p.1 (c.write_at.ensures.told tells)

pub returns-in_err-write_at-clause-aside : goal.returns-in_err-write_at-clause-aside
returns-in_err-write_at-clause-aside g c tells = aside_write c.args.side _ _ _ _ _ _ _ (c.write_at.ensures.told tells)

pub returns-clause-told : goal.returns-clause-told
returns-clause-told g c tells = drafted _ _ _ _ _ _ _ _ _ (c.in_ok-write_at.ensures.told tells)

pub returns-clause-aside : goal.returns-clause-aside
returns-clause-aside g c tells = aside_write c.args.side _ _ _ _ _ _ _ (c.in_ok-write_at.ensures.told tells)
