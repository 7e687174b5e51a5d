-- What is known of the name stands in what is left.
use Rattle.std.proofs.Common.{◌≡◌, drop}
use Rattle.action_queue.specs.Book.{known_at}
use Rattle.action_queue.proofs.book.known_in.Given as goal

abbrev pub invariant-loop-known : goal.invariant-loop-known
invariant-loop-known l = known_at l.name (drop l.known-index l.boxes) ≡ known_at l.name l.boxes
