-- A CLOSED is the last so far.
use Rattle.std.proofs.Common.{sym, ◌∙◌, arith}
use Rattle.qresync_core.proofs.Closing.{open_more, closed_more, all_taken}
use Rattle.qresync_core.proofs.behind.closed_len.Goals as goal

pub loop-place-preserved-then-not-is_closed : goal.loop-place-preserved-then-not-is_closed
loop-place-preserved-then-not-is_closed c =
    c.loop-place.invariant
    ∙ sym (open_more c.args.told.now c.loop-place.place c.index-told-place.result c.loop-place-test.true c.index-told-place.is (sym c.if-not-is_closed.ensures))

pub loop-place-preserved : goal.loop-place-preserved
loop-place-preserved c =
    sym (closed_more c.args.told.now c.loop-place.place c.index-told-place.result c.loop-place-test.true c.index-told-place.is (sym c.if-not-is_closed.ensures))

pub returns-clause-within : goal.returns-clause-within
returns-clause-within c =
    all_taken c.args.told.now c.loop-place.place c.loop-place.len (omega (arith, c.loop-place-test.false)) c.loop-place.invariant
