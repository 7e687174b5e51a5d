use Rattle.std.proofs.Common.{◌≡◌, ◌++◌}
use Rattle.cases.specs.Reading.{repeated}
use Rattle.cases.proofs.words.put_repeated.Given as goal

abbrev pub invariant-loop : goal.invariant-loop
invariant-loop l = l.word.items ≡ l.initial.word.items ++ repeated l.counter l.once
