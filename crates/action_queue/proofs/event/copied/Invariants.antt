-- What is copied is what was passed.
use Rattle.std.proofs.Common.{◌≡◌, take}
use Rattle.action_queue.proofs.event.copied.Given as goal

abbrev pub invariant-loop-name : goal.invariant-loop-name
invariant-loop-name l = l.copies.items ≡ take l.name-index l.names
