use Rattle.std.proofs.Common.{◌≡◌, false}
use Rattle.journal_cases.proofs.journals.read_whole.Given as goal

abbrev pub invariant-loop : goal.invariant-loop
invariant-loop g l = l.journal.failed ≡ false
