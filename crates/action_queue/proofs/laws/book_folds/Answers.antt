use Rattle.action_queue.proofs.AnewBooks.{book_folds}
use Rattle.action_queue.proofs.laws.book_folds.Goals as goal

pub returns : goal.returns
returns c = book_folds
