use Rattle.action_queue.specs.Book.{meaning}
use Rattle.playback.proofs.TakenReply.{fault_heard, kept_heard}
use Rattle.playback.proofs.heard.heard_of.Goals as goal

pub returns-clause-value : goal.returns-clause-value
returns-clause-value c =
    kept_heard c.args.player.now (meaning c.args.book.now) c.args.permits c.args.replies.now c.heard_due.result c.heard_due.ensures

pub returns-clause-fault : goal.returns-clause-fault
returns-clause-fault c =
    fault_heard c.args.player.now (meaning c.args.book.now) c.args.permits c.args.replies.now c.heard_due.result c.heard_due.ensures
