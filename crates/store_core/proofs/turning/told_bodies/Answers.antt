use Rattle.std.proofs.Common.{arith}
use Rattle.action_queue.specs.Book.{meaning}
use Rattle.action_queue.specs.Telling.{pieces}
use Rattle.action_queue.proofs.Told.{none_left}
use Rattle.store_core.proofs.Telling.{last_told, next_told}
use Rattle.store_core.proofs.turning.told_bodies.Goals as goal

pub loop-bodies-preserved : goal.loop-bodies-preserved
loop-bodies-preserved c =
    next_told (pieces (meaning c.args.book.now)) c.loop-bodies.bodies.items _ c.len.result _ _ (omega arith) c.in-Some.is
    c.in_ok-body.ensures c.in_ok-push.ensures.items c.loop-bodies.invariant

pub returns : goal.returns
returns c =
    last_told (pieces (meaning c.args.book.now)) c.loop-bodies.bodies.items c.len.result _ (omega arith)
    (none_left _ c.in_default.not-Some) c.in_ok-body.ensures c.loop-bodies.invariant
