use Rattle.std.proofs.Common.{◌≡◌, ◌++◌, ◌∷◌, ◌∙◌, [], decimal, ⊎_elim, ap, subst}
use Rattle.cases.specs.Reading.{Reads, ended, repeated}
use Rattle.cases.proofs.Counting.{count_is, no_count, parts, some_count}
use Rattle.cases.proofs.ReadAgain.{out_by}
use Rattle.cases.proofs.words.take_counted.Goals as goal

pub returns-in_err-rest-clause-again : goal.returns-in_err-rest-clause-again
returns-in_err-rest-clause-again c = λ whole left text is.
    out_by c.from_residual.result _ c.in_err-rest.field-0.0 c.from_residual.ensures.0 c.from_residual.ensures.1
    (⊎_elim (λ once. (c.in_err-rest.ensures.again whole (ended left) text.bytes once).1)
    (λ k. (c.in_err-rest.ensures.again (k.byte ∷ []) (42 ∷ (decimal k.count ++ ended left)) k.small k.is).1)
    (parts whole left c.args.text.now text is))

pub returns-in-Some-clause-again : goal.returns-in-Some-clause-again
returns-in-Some-clause-again c = λ whole left text is.
    ⊎_elim (λ once. absurd (no_count c.in_ok-rest.rest.now c.in-Some.counted.now left c.in-Some.ensures.value
    (c.in_ok-rest.ensures.again whole (ended left) text.bytes once).0.0))
    (λ k.
    let both = (c.in_ok-rest.ensures.again (k.byte ∷ []) (42 ∷ (decimal k.count ++ ended left)) k.small k.is).0 in
    subst (λ w. Reads c.take_count.result (λ rest. (rest.now ≡ ended left) × (c.take_count.new.word.items ≡ c.args.word.now.items ++ w)))
    (ap (repeated k.count) (c.deref.ensures.value ∙ both.1 ∙ ap (λ l. l ++ k.byte ∷ []) c.new-once.ensures.items) ∙ k.run)
    (c.take_count.ensures.again k.count left k.few
    (count_is c.in_ok-rest.rest.now c.in-Some.counted.now (decimal k.count ++ ended left) c.in-Some.ensures.value both.0)))
    (parts whole left c.args.text.now text is)

pub returns-clause-again : goal.returns-clause-again
returns-clause-again c = λ whole left text is.
    ⊎_elim (λ once.
    let both = (c.in_ok-rest.ensures.again whole (ended left) text.bytes once).0 in (
      (
        both.0,
        c.in_ok-extend_from_slice.ensures.items
            ∙ ap (λ l. c.args.word.now.items ++ l) (c.deref-2.ensures.value ∙ both.1 ∙ ap (λ l. l ++ whole) c.new-once.ensures.items),
      ),
      tt,
    ))
    (λ k. absurd (some_count c.in_ok-rest.rest.now (decimal k.count ++ ended left) c.in_default.ensures.value
    (c.in_ok-rest.ensures.again (k.byte ∷ []) (42 ∷ (decimal k.count ++ ended left)) k.small k.is).0.0))
    (parts whole left c.args.text.now text is)
