-- What is left decides.
use Rattle.std.proofs.Common.{◌≡◌, length}
use Rattle.std.specs.List.{list_all}
use Rattle.book_laws.specs.PlainFresh as plain
use Rattle.book_laws.proofs.plain_fresh.accounts_for_all.Given as goal

abbrev pub invariant-loop-row : goal.invariant-loop-row
invariant-loop-row l = list_all (plain.accounts_for l.cache l.mailbox) l.cache.rows ≡ list_all (plain.accounts_for l.cache l.mailbox) l.rest

abbrev pub decreases-loop-row : goal.decreases-loop-row
decreases-loop-row l = length l.rest
