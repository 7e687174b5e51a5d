use Rattle.std.proofs.Common.{◌≡◌, [], map, take}
use Rattle.cases.specs.Answers.{added, one_form}
use Rattle.cases.proofs.answer.Answer.of.Given as goal

abbrev pub invariant-loop-word : goal.invariant-loop-word
invariant-loop-word l = l.answer ≡ added [] (map one_form (take l.word-index l.words))
