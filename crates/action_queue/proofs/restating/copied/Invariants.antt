-- What is copied is what was passed.
use Rattle.std.proofs.Common.{◌≡◌, take}
use Rattle.action_queue.proofs.restating.copied.Given as goal

abbrev pub invariant-loop-uid : goal.invariant-loop-uid
invariant-loop-uid l = l.copies.items ≡ take l.uid-index l.rows
