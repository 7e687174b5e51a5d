-- By the plain program on lists.
use Rattle.action_queue.specs.Book.{meaning}
use Rattle.book_laws.specs.PlainOpen.{open_holds}
use Rattle.book_laws.proofs.PlainBoxes.{open_decides, good_id}
use Rattle.book_laws.proofs.Deciding.{decides_ok}
use Rattle.book_laws.proofs.plain_open.intent_open.Goals as goal

pub returns : goal.returns
returns c = decides_ok c.pending_holds.result (open_holds (meaning c.args.book.now) c.args.server.now) c.pending_holds.ensures
    (open_decides (meaning c.args.book.now) c.args.server.now)

pub pending_holds-requires : goal.pending_holds-requires
pending_holds-requires c = good_id (meaning c.args.book.now) c.requires
