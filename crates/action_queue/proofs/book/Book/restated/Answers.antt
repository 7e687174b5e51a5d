-- One event more is told, and where there is none, all are.
use Rattle.std.proofs.Common.{arith}
use Rattle.action_queue.specs.Book.{meaning}
use Rattle.action_queue.specs.Telling.{pieces}
use Rattle.action_queue.proofs.Told.{none_left, told_end, told_next}
use Rattle.action_queue.proofs.book.Book.restated.Goals as goal

pub loop-list-preserved : goal.loop-list-preserved
loop-list-preserved c =
    told_next (pieces (meaning c.args.self.now)) c.loop-list.list.items _ _ c.len.result _ (omega arith) c.in-Some.is c.in_ok-event.ensures
    c.in_ok-push.ensures.items c.loop-list.invariant

pub returns : goal.returns
returns c =
    told_end (pieces (meaning c.args.self.now)) c.loop-list.list.items c.len.result _ (omega arith)
    (none_left _ c.in_default.not-Some) c.in_ok-event.ensures c.loop-list.invariant
