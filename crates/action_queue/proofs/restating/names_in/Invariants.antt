-- The names so far are those of the mailboxes so far.
use Rattle.std.proofs.Common.{◌≡◌, take}
use Rattle.action_queue.specs.Restating.{names_of}
use Rattle.action_queue.proofs.restating.names_in.Given as goal

abbrev pub invariant-loop-known : goal.invariant-loop-known
invariant-loop-known l = l.names.items ≡ names_of (take l.known-index l.boxes)
