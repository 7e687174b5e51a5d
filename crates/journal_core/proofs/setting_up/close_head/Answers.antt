use Rattle.std.proofs.lemmas.Result.{err_from_is_err_and}
use Rattle.world_traits.specs.Files.{file_of}
use Rattle.journal_core.proofs.AsideStays.{aside_then, aside_look, aside_write, aside_sync}
use Rattle.journal_core.proofs.HeadCloses.{IsToClose, is_shut, few_to_close, open_to_close, closed_looked, closed_already, closed_unwritten, closed_synced}
use Rattle.journal_core.proofs.setting_up.close_head.Goals as goal
use Rattle.journal_core.proofs.setting_up.close_head.Goals.{else-count-eq-HEAD-via-then-count-eq-HEAD+else-front-ne-OPEN}
use Rattle.journal_core.proofs.setting_up.close_head.Goals.{else-count-eq-HEAD-via-else-count-eq-HEAD}

pub returns-in_err-count-clause-told : goal.returns-in_err-count-clause-told
returns-in_err-count-clause-told g c tells =
    let p = err_from_is_err_and c.from_residual.result c.from_residual.ensures.1 in
    closed_looked _ _ _ _ _ _ _ p.1 (c.read.ensures.told tells)

pub returns-then-front-ne-OPEN-clause-told : goal.returns-then-front-ne-OPEN-clause-told
returns-then-front-ne-OPEN-clause-told g c tells =
    closed_already _ _ _ _ _ _ (c.in_ok-count.ensures.told tells)
    (is_shut _ _ _ (c.in_ok-count.ensures.value tells) (c.in_ok-count.ensures.bytes tells) c.if-count-eq-HEAD.true c.if-front-ne-OPEN.true)

pub returns-in_err-write_at-clause-told : goal.returns-in_err-write_at-clause-told
returns-in_err-write_at-clause-told g c tells =
    let p = err_from_is_err_and c.from_residual-in_err-write_at.result c.from_residual-in_err-write_at.ensures.1 in
    let value = c.in_ok-count.ensures.value tells in
    let bytes = c.in_ok-count.ensures.bytes tells in
    let close : IsToClose (file_of c.args.side (g.D.Disk.seen c.args.disk.now)) = elim c.else-count-eq-HEAD.branch [
      | else-count-eq-HEAD-via-then-count-eq-HEAD+else-front-ne-OPEN w ↦ open_to_close _ _ _ value bytes w.if-count-eq-HEAD.true w.if-front-ne-OPEN.false
      | else-count-eq-HEAD-via-else-count-eq-HEAD w ↦ few_to_close _ _ _ value bytes w.if-count-eq-HEAD.false
    ] in
    closed_unwritten _ _ _ _ _ _ _ _ _ _ p.1 (c.in_ok-count.ensures.told tells) close (c.write_at.ensures.told tells)

pub returns-clause-told : goal.returns-clause-told
returns-clause-told g c tells =
    let value = c.in_ok-count.ensures.value tells in
    let bytes = c.in_ok-count.ensures.bytes tells in
    let close : IsToClose (file_of c.args.side (g.D.Disk.seen c.args.disk.now)) = elim c.else-count-eq-HEAD.branch [
      | else-count-eq-HEAD-via-then-count-eq-HEAD+else-front-ne-OPEN w ↦ open_to_close _ _ _ value bytes w.if-count-eq-HEAD.true w.if-front-ne-OPEN.false
      | else-count-eq-HEAD-via-else-count-eq-HEAD w ↦ few_to_close _ _ _ value bytes w.if-count-eq-HEAD.false
    ] in
    closed_synced _ _ _ _ _ _ _ _ _ _ _ (c.in_ok-count.ensures.told tells) close (c.in_ok-write_at.ensures.told tells) (c.sync.ensures.told tells)

pub returns-in_err-count-clause-aside : goal.returns-in_err-count-clause-aside
returns-in_err-count-clause-aside g c tells = aside_look c.args.side _ _ _ _ (c.read.ensures.told tells)

pub returns-then-front-ne-OPEN-clause-aside : goal.returns-then-front-ne-OPEN-clause-aside
returns-then-front-ne-OPEN-clause-aside g c tells = aside_look c.args.side _ _ _ _ (c.read.ensures.told tells)

pub returns-in_err-write_at-clause-aside : goal.returns-in_err-write_at-clause-aside
returns-in_err-write_at-clause-aside g c tells = aside_then c.args.side _ _ _
    (aside_look c.args.side _ _ _ _ (c.read.ensures.told tells)) (aside_write c.args.side _ _ _ _ _ _ _ (c.write_at.ensures.told tells))

pub returns-clause-aside : goal.returns-clause-aside
returns-clause-aside g c tells = aside_then c.args.side _ _ _
    (aside_then c.args.side _ _ _
    (aside_look c.args.side _ _ _ _ (c.read.ensures.told tells)) (aside_write c.args.side _ _ _ _ _ _ _ (c.write_at.ensures.told tells)))
    (aside_sync c.args.side _ _ _ _ _ (c.sync.ensures.told tells))
