-- Each mailbox's pieces are passed, or the place is among them.
use Rattle.std.proofs.Common.{arith}
use Rattle.action_queue.proofs.Told.{none_left, spot_behind, spot_none, spot_past, spot_told}
use Rattle.action_queue.proofs.restating.spot_in.Goals as goal

pub loop-known-preserved-in_default : goal.loop-known-preserved-in_default
loop-known-preserved-in_default c =
    spot_none c.args.boxes.now c.loop-known.known-index c.known-item.result c.args.place c.loop-known.left c.loop-known-test.true
    c.known-item.is c.loop-known.invariant (none_left c.known-item.result.cache c.in_default.not-Some)

pub loop-known-preserved : goal.loop-known-preserved
loop-known-preserved c =
    spot_past c.args.boxes.now c.loop-known.known-index c.known-item.result c.args.place c.loop-known.left c.loop-known-test.true
    c.known-item.is c.loop-known.invariant _ c.in-Some.is c.parts_of-parts.result _ c.parts_of-parts.ensures (omega arith)

pub returns-then-left-parts : goal.returns-then-left-parts
returns-then-left-parts c =
    spot_told c.args.boxes.now c.loop-known.known-index c.known-item.result c.args.place c.loop-known.left c.loop-known-test.true
    c.known-item.is c.loop-known.invariant _ c.in-Some.is (omega arith) _ c.in_ok-event.ensures

pub returns : goal.returns
returns c =
    spot_behind c.args.boxes.now c.loop-known.known-index c.args.place c.loop-known.left c.loop-known-test.false c.loop-known.invariant
