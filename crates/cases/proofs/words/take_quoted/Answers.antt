use Rattle.std.proofs.Common.{◌∙◌, [], is_some, unwrap_or, ap, sym, subst, arith, true≢false}
use Rattle.cases.specs.Reading.{behind}
use Rattle.cases.proofs.QuotedReading.{Left, ends, step}
use Rattle.cases.proofs.ReadAgain.{out}
use Rattle.cases.proofs.words.take_quoted.Goals as goal

pub returns-in_err-push-clause-again : goal.returns-in_err-push-clause-again
returns-in_err-push-clause-again c = λ whole tail small is. out c.from_residual.result _ c.from_residual.ensures.0 c.from_residual.ensures.1

pub loop-byte-preserved : goal.loop-byte-preserved
loop-byte-preserved c = (
  omega (arith, c.in-Some-first_byte.ensures.shorter, c.loop-byte.invariant.0),
  λ whole tail small is. subst (λ items. Left whole tail c.args.word.now.items items c.in-Some-first_byte.behind.now) (sym c.in_ok-push.ensures.items)
      (step whole tail c.args.word.now.items c.loop-byte.word.items c.loop-byte.rest.now c.in-Some-first_byte.byte c.in-Some-first_byte.behind.now
      c.in-Some-first_byte.ensures.value (c.loop-byte.invariant.1 whole tail small is)),
)

pub returns-in-Some-behind_mark-clause-again : goal.returns-in-Some-behind_mark-clause-again
returns-in-Some-behind_mark-clause-again c = λ whole tail small is.
    let both = ends whole tail c.args.word.now.items c.loop-byte.word.items c.loop-byte.rest.now c.in_default-first_byte.ensures.none
    (c.loop-byte.invariant.1 whole tail small is) in
    ((ap (λ o. unwrap_or o []) (c.in-Some-behind_mark.ensures.value ∙ ap (behind 34) both.0), both.1), tt)

pub returns-in-None-clause-again : goal.returns-in-None-clause-again
returns-in-None-clause-again c = λ whole tail small is.
    let both = ends whole tail c.args.word.now.items c.loop-byte.word.items c.loop-byte.rest.now c.in_default-first_byte.ensures.none
    (c.loop-byte.invariant.1 whole tail small is) in
    absurd (true≢false (sym (ap is_some (c.in-None.ensures.value ∙ ap (behind 34) both.0))))
