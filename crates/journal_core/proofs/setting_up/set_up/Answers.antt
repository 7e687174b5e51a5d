use Rattle.std.proofs.lemmas.Result.{err_from_is_err_and}
use Rattle.journal_core.proofs.AsideStays.{aside_then}
use Rattle.journal_core.proofs.HeadCloses.{not_set_up, is_set_up}
use Rattle.journal_core.proofs.setting_up.set_up.Goals as goal

pub returns-in_err-close_head-clause-told : goal.returns-in_err-close_head-clause-told
returns-in_err-close_head-clause-told g c tells version generation bodies is =
    let p = err_from_is_err_and c.from_residual.result c.from_residual.ensures.1 in
    not_set_up _ _ _ _ _ is _ _ _ _ _ _ _ p.1 (c.close_head.ensures.told tells)

pub returns-clause-told : goal.returns-clause-told
returns-clause-told g c tells version generation bodies is =
    is_set_up _ _ _ _ _ is _ _ _ _ _ _ _ (c.in_ok-close_head.ensures.told tells) _ (c.write_gated.ensures.told tells)

pub returns-clause-aside : goal.returns-clause-aside
returns-clause-aside g c tells = aside_then c.args.side _ _ _ (c.in_ok-close_head.ensures.aside tells) (c.write_gated.ensures.aside tells)
