-- The deeds so far, and those of the rest, are all.
use Rattle.std.proofs.Common.{◌≡◌, ◌++◌, length}
use Rattle.imap_model.specs.Ours.{ours}
use Rattle.book_laws.proofs.plain_once.deeds_of.Given as goal

abbrev pub invariant-loop-deed : goal.invariant-loop-deed
invariant-loop-deed l = ours l.number l.history ≡ l.mine ++ ours l.number l.rest

abbrev pub decreases-loop-deed : goal.decreases-loop-deed
decreases-loop-deed l = length l.rest
