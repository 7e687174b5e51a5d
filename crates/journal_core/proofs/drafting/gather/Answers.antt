use Rattle.std.proofs.Common.{ℕ, List, length, ◌+◌, ◌∙◌, ap, arith, length-append}
use Rattle.std.proofs.lemmas.Result.{err_from_is_err_and}
use Rattle.journal_core.specs.Records.{open_record}
use Rattle.journal_core.proofs.AsideStays.{aside_none, aside_then}
use Rattle.journal_core.proofs.DraftWrites.{drafts_as}
use Rattle.journal_core.proofs.Gathering.{if_ok_more, gathers_held, gathers_put, gathers_failed}
use Rattle.journal_core.proofs.drafting.gather.Goals as goal

pub hold_back-requires : goal.hold_back-requires
hold_back-requires g c = c.has_room.ensures c.if-has_room.true

pub returns-then-has_room-clause-value : goal.returns-then-has_room-clause-value
returns-then-has_room-clause-value g c =
    omega (arith, ap length c.hold_back.ensures, length-append c.args.piece.now.items (open_record c.args.body.now))

pub returns-then-has_room-clause-told : goal.returns-then-has_room-clause-told
returns-then-has_room-clause-told g c tells = gathers_held _ _ _ _ _ _ _ _ c.hold_back.ensures

pub returns-then-has_room-clause-aside : goal.returns-then-has_room-clause-aside
returns-then-has_room-clause-aside g c tells = aside_none c.args.side _

pub put_more-requires : goal.put_more-requires
put_more-requires g c = record { room = omega (arith, c.requires.room, ap length c.as_slice.ensures.value) }

pub put_record-requires : goal.put_record-requires
put_record-requires g c = record { room = omega (arith, c.requires.room, c.in_ok-next.ensures.value, ap length c.as_slice.ensures.value) }

pub returns-in_err-next-clause-told : goal.returns-in_err-next-clause-told
returns-in_err-next-clause-told g c tells =
    let p = err_from_is_err_and c.from_residual.result c.from_residual.ensures.1 in
    gathers_failed _ _ _ _ _ _ _ _ _ _ _ p.0 p.1 (drafts_as _ _ _ _ _ _ _ _ _ c.as_slice.ensures.value (c.put_more.ensures.told tells))

pub returns-in_err-next-clause-aside : goal.returns-in_err-next-clause-aside
returns-in_err-next-clause-aside g c tells = c.put_more.ensures.aside tells

pub returns-clause-value : goal.returns-clause-value
returns-clause-value g c = if_ok_more c.put_record.result _ _
    (λ (n : ℕ) is. omega (arith, is, c.in_ok-next.ensures.value, ap length c.clear.ensures, ap length c.as_slice.ensures.value)) c.put_record.ensures.value

pub returns-clause-told : goal.returns-clause-told
returns-clause-told g c tells =
    gathers_put _ _ _ _ _ _ _ _ _ _ _ _ _ _ (c.in_ok-next.ensures.value ∙ ap (λ (l : List ℕ). c.args.at + length l) c.as_slice.ensures.value) c.clear.ensures
    (drafts_as _ _ _ _ _ _ _ _ _ c.as_slice.ensures.value (c.in_ok-next.ensures.told tells)) (c.put_record.ensures.told tells)

pub returns-clause-aside : goal.returns-clause-aside
returns-clause-aside g c tells = aside_then c.args.side _ _ _ (c.in_ok-next.ensures.aside tells) (c.put_record.ensures.aside tells)
