-- What is left decides.
use Rattle.std.proofs.Common.{◌≡◌, length}
use Rattle.book_laws.specs.PlainOpen as plain
use Rattle.book_laws.proofs.plain_open.gave.Given as goal

abbrev pub invariant-loop-deed : goal.invariant-loop-deed
invariant-loop-deed l = plain.gave l.uids l.mine ≡ plain.gave l.left l.rest

abbrev pub decreases-loop-deed : goal.decreases-loop-deed
decreases-loop-deed l = length l.rest
