-- By the plain program on lists.
use Rattle.action_queue.specs.Book.{meaning}
use Rattle.book_laws.specs.PlainOnce.{once_holds}
use Rattle.book_laws.proofs.PlainDeeds.{once_decides}
use Rattle.book_laws.proofs.Deciding.{decides_ok}
use Rattle.book_laws.proofs.plain_once.counts_right.Goals as goal

pub returns : goal.returns
returns c = decides_ok c.counted.result (once_holds (meaning c.args.book.now) c.args.server.now.history) c.counted.ensures
    (once_decides (meaning c.args.book.now) c.args.server.now.history)
