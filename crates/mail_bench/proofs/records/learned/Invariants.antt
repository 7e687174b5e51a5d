use Rattle.std.proofs.Common.{◌≡◌, ◌+◌, ◌*◌, length}
use Rattle.mail_bench.proofs.records.learned.Given as goal

abbrev pub invariant-loop-before : goal.invariant-loop-before
invariant-loop-before l = length l.body.items ≡ 34 + 20 * l.before
