use Rattle.std.proofs.Common.{◌≡◌, ◌+◌, ◌*◌, length}
use Rattle.mail_bench.proofs.stores.journal.Given as goal

abbrev pub invariant-loop-before : goal.invariant-loop-before
invariant-loop-before l = (length l.file.items ≡ 34 + 2124 * l.before) × (length l.first.items ≡ 2037) × (length l.later.items ≡ 2037)
