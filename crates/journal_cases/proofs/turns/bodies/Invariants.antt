use Rattle.journal_core.specs.Creating.{NoneEmpty}
use Rattle.journal_cases.proofs.turns.bodies.Given as goal

abbrev pub invariant-loop : goal.invariant-loop
invariant-loop l = NoneEmpty l.bodies.items
