use Rattle.action_queue.specs.Book.{meaning}
use Rattle.play_driver.proofs.Counts.{played_there, since_there}
use Rattle.play_driver.proofs.counting.played_since.Goals as goal

pub returns : goal.returns
returns c entry fold later all is =
    let b = meaning c.args.book.now in
    let queue = c.as_slice-queue.result.now in
    let since = since_there entry b fold later queue c.args.settled c.len.result c.min-from.result c.as_slice-queue.ensures is c.len.ensures.value
    c.min-from.ensures in
    played_there entry b fold later all _ c.conflicts_in.result since c.conflicts_in.ensures
