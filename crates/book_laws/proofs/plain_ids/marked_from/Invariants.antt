-- What is left decides.
use Rattle.std.proofs.Common.{◌≡◌, ◌++◌, length}
use Rattle.book_laws.specs.PlainOpen as plain
use Rattle.book_laws.proofs.plain_ids.marked_from.Given as goal

abbrev pub invariant-loop-message : goal.invariant-loop-message
invariant-loop-message l = plain.marked_from l.low l.id l.messages ≡ l.uids ++ plain.marked_from l.low l.id l.rest

abbrev pub decreases-loop-message : goal.decreases-loop-message
decreases-loop-message l = length l.rest
