use Rattle.std.proofs.Common.{◌∙◌, [], map, ap, arith}
use Rattle.std.proofs.lemmas.List.{take_all}
use Rattle.cases.specs.Answers.{added, one_form}
use Rattle.cases.proofs.Sameness.{turn}
use Rattle.cases.proofs.answer.Answer.of.Goals as goal

pub loop-word-preserved : goal.loop-word-preserved
loop-word-preserved c = turn c.args.words.now c.loop-word.word-index c.word-item.result c.loop-word.answer _ c.loop-word-test.true c.word-item.is
    c.loop-word.invariant c.in_ok-put.ensures.0

pub returns : goal.returns
returns c = (
  c.loop-word.invariant
      ∙ ap (λ l. added [] (map one_form l)) (take_all c.loop-word.word-index c.args.words.now (omega (arith, c.loop-word-test.false))),
  tt,
)
