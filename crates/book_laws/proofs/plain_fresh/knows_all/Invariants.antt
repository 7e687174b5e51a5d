-- What is left decides.
use Rattle.std.proofs.Common.{◌≡◌, length}
use Rattle.std.specs.List.{list_all}
use Rattle.book_laws.specs.PlainFresh as plain
use Rattle.book_laws.proofs.plain_fresh.knows_all.Given as goal

abbrev pub invariant-loop-message : goal.invariant-loop-message
invariant-loop-message l = list_all (plain.knows_message l.cache) l.messages ≡ list_all (plain.knows_message l.cache) l.rest

abbrev pub decreases-loop-message : goal.decreases-loop-message
decreases-loop-message l = length l.rest
