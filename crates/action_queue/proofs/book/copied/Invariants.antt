-- What is copied is what was passed.
use Rattle.std.proofs.Common.{◌≡◌, take}
use Rattle.action_queue.proofs.book.copied.Given as goal

abbrev pub invariant-loop-known : goal.invariant-loop-known
invariant-loop-known l = l.copies.items ≡ take l.known-index l.boxes
