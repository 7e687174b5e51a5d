-- Each name so far has its mailbox.
use Rattle.std.proofs.Common.{◌≡◌, take}
use Rattle.std.specs.Prelude.{map}
use Rattle.action_queue.specs.Book.{known_of}
use Rattle.action_queue.proofs.book.begun_boxes.Given as goal

abbrev pub invariant-loop-name : goal.invariant-loop-name
invariant-loop-name l = l.boxes.items ≡ map known_of (take l.name-index l.names)
