-- By the plain program on lists.
use Rattle.action_queue.specs.Book.{meaning}
use Rattle.book_laws.specs.PlainFresh.{fresh_holds}
use Rattle.book_laws.proofs.PlainBoxes.{fresh_decides}
use Rattle.book_laws.proofs.Deciding.{decides_ok}
use Rattle.book_laws.proofs.plain_fresh.caches_fresh.Goals as goal

pub returns : goal.returns
returns c = decides_ok c.all_fresh.result (fresh_holds (meaning c.args.book.now) c.args.server.now.boxes) c.all_fresh.ensures
    (fresh_decides (meaning c.args.book.now) c.args.server.now.boxes c.requires)
