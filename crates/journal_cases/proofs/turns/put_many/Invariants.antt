use Rattle.journal_core.specs.Creating.{NoneEmpty}
use Rattle.journal_cases.proofs.turns.put_many.Given as goal

abbrev pub invariant-loop : goal.invariant-loop
invariant-loop l = NoneEmpty l.bodies.items
