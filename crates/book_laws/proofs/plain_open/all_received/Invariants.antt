-- What is left decides.
use Rattle.std.proofs.Common.{◌≡◌, length}
use Rattle.book_laws.specs.PlainOpen as plain
use Rattle.book_laws.proofs.plain_open.all_received.Given as goal

abbrev pub invariant-loop-deed : goal.invariant-loop-deed
invariant-loop-deed l = plain.all_received l.validity l.mine ≡ plain.all_received l.validity l.rest

abbrev pub decreases-loop-deed : goal.decreases-loop-deed
decreases-loop-deed l = length l.rest
