use Rattle.std.proofs.Common.{ap, List, ℕ, ◌++◌}
use Rattle.std.proofs.lemmas.Result.{err_from_is_err_and}
use Rattle.journal_core.proofs.AsideStays.{aside_then}
use Rattle.journal_core.proofs.DraftWrites.{drafts_as, drafts_then, drafts_failed}
use Rattle.journal_core.specs.Sides.{magic_of, version_written}
use Rattle.journal_core.proofs.setting_up.put_header.Goals as goal

pub returns-in_err-next-clause-told : goal.returns-in_err-next-clause-told
returns-in_err-next-clause-told g c tells =
    let p = err_from_is_err_and c.from_residual.result c.from_residual.ensures.1 in
    drafts_failed _ _ _ _ _ _ _ _ _ _ p.0 p.1 (c.put_more.ensures.told tells)

pub returns-clause-told : goal.returns-clause-told
returns-clause-told g c tells =
    drafts_as c.args.side 1 _ _ _ _ _ _ _ (ap (λ (l : List ℕ). magic_of version_written ++ l) c.to_be_bytes.ensures)
    (drafts_then c.args.side 1 (magic_of version_written) c.to_be_bytes.result _ _ _ _ _ _ _ _ _ c.in_ok-next.ensures.value (c.in_ok-next.ensures.told tells)
    (c.put_more-2.ensures.told tells))

pub returns-clause-aside : goal.returns-clause-aside
returns-clause-aside g c tells = aside_then c.args.side _ _ _ (c.in_ok-next.ensures.aside tells) (c.put_more-2.ensures.aside tells)
