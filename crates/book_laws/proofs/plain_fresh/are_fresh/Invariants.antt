-- What is left decides.
use Rattle.std.proofs.Common.{◌≡◌, length}
use Rattle.action_queue.specs.Book.{meaning}
use Rattle.book_laws.specs.PlainFresh as plain
use Rattle.book_laws.proofs.plain_fresh.are_fresh.Given as goal

abbrev pub invariant-loop-one : goal.invariant-loop-one
invariant-loop-one l = plain.fresh_among (meaning l.book) l.boxes l.known ≡ plain.fresh_among (meaning l.book) l.boxes l.rest

abbrev pub decreases-loop-one : goal.decreases-loop-one
decreases-loop-one l = length l.rest
