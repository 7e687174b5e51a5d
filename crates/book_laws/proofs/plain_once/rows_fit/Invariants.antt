-- What is left decides, and the place is that of the first that is left.
use Rattle.std.proofs.Common.{◌≡◌, ◌+◌, length}
use Rattle.action_queue.specs.Book.{meaning}
use Rattle.book_laws.specs.PlainOnce as plain
use Rattle.book_laws.proofs.plain_once.rows_fit.Given as goal

abbrev pub invariant-loop-queued : goal.invariant-loop-queued
invariant-loop-queued l =
    (plain.rows_fit (meaning l.book) l.history 0 l.book.queue.items ≡ plain.rows_fit (meaning l.book) l.history l.place l.rest)
    × (l.place + length l.rest ≡ l.most)

abbrev pub decreases-loop-queued : goal.decreases-loop-queued
decreases-loop-queued l = length l.rest
