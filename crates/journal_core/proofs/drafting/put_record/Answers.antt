use Rattle.std.proofs.lemmas.Result.{err_from_is_err_and}
use Rattle.journal_core.proofs.AsideStays.{aside_then}
use Rattle.journal_core.proofs.DraftWrites.{drafts_then, drafts_failed, record_parts}
use Rattle.journal_core.proofs.drafting.put_record.Goals as goal

pub returns-in_err-next-clause-told : goal.returns-in_err-next-clause-told
returns-in_err-next-clause-told g c tells =
    let p = err_from_is_err_and c.from_residual.result c.from_residual.ensures.1 in
    drafts_failed _ _ _ _ _ _ _ _ _ _ p.0 p.1 (c.put_more.ensures.told tells)

pub returns-clause-told : goal.returns-clause-told
returns-clause-told g c tells =
    record_parts c.args.side c.args.at _ c.args.body.now _ _ _ _ _ c.to_be_bytes-size.ensures
    (drafts_then c.args.side c.args.at _ c.args.body.now _ _ _ _ _ _ _ _ _ c.in_ok-next.ensures.value (c.in_ok-next.ensures.told tells) (c.put_more-2.ensures.told tells))

pub returns-clause-aside : goal.returns-clause-aside
returns-clause-aside g c tells = aside_then c.args.side _ _ _ (c.in_ok-next.ensures.aside tells) (c.put_more-2.ensures.aside tells)
