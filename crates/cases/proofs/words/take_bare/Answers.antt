use Rattle.std.proofs.Common.{◌++◌, ◌∙◌, ap, refl, sym, length, arith}
use Rattle.cases.specs.Written.{is_bare}
use Rattle.cases.proofs.ReadAgain.{back_is, front_is, with_more}
use Rattle.cases.proofs.Sameness.{empty_text}
use Rattle.cases.proofs.words.take_bare.Goals as goal

pub returns-clause-again : goal.returns-clause-again
returns-clause-again c = λ whole left bare is.
    let front = front_is is_bare c.args.text.now whole c.split_at.result.0.now left c.bare_end.result bare.bytes refl is c.bare_end.ensures.value c.split_at.ensures.front in
    let back = back_is is_bare c.args.text.now whole c.split_at.result.1.now left c.bare_end.result bare.bytes refl is c.bare_end.ensures.value c.split_at.ensures.back in
    with_more c.left_behind.result _ _ (c.left_behind.ensures.again left back)
    (c.in_ok-extend_from_slice.ensures.items ∙ ap (λ l. c.args.word.now.items ++ l) front)

pub returns-then-is_empty-clause-again : goal.returns-then-is_empty-clause-again
returns-then-is_empty-clause-again c = λ whole left bare is.
    let front = front_is is_bare c.args.text.now whole c.split_at.result.0.now left c.bare_end.result bare.bytes refl is c.bare_end.ensures.value c.split_at.ensures.front in
    absurd (omega (arith, bare.some, ap length (sym front ∙ empty_text c.split_at.result.0.now c.is_empty.result c.is_empty.ensures c.if-is_empty.true)))
