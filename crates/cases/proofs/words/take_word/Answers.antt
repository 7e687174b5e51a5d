use Rattle.std.proofs.Common.{◌++◌, ◌∙◌, ap, sym}
use Rattle.cases.specs.Reading.{begins_quoted, ended}
use Rattle.cases.proofs.ReadAgain.{bare_is, out_by, quoted_is, with_more}
use Rattle.cases.proofs.words.take_word.Goals as goal

pub returns-in_err-rest-clause-again : goal.returns-in_err-rest-clause-again
returns-in_err-rest-clause-again c = λ whole left word is.
    let e = quoted_is whole (ended left) word (sym (c.is_quoted.ensures ∙ ap begins_quoted is) ∙ c.if-is_quoted.true) in
    out_by c.from_residual.result _ c.in_err-rest.field-0.0 c.from_residual.ensures.0 c.from_residual.ensures.1
    (c.in_err-rest.ensures.again whole.bytes left word.text (is ∙ ap (λ l. l ++ ended left) e)).1

pub returns-in_ok-rest-clause-again : goal.returns-in_ok-rest-clause-again
returns-in_ok-rest-clause-again c = λ whole left word is.
    let e = quoted_is whole (ended left) word (sym (c.is_quoted.ensures ∙ ap begins_quoted is) ∙ c.if-is_quoted.true) in
    let both = (c.in_ok-rest.ensures.again whole.bytes left word.text (is ∙ ap (λ l. l ++ ended left) e)).0 in
    with_more c.left_behind.result _ _ (c.left_behind.ensures.again left both.0) both.1

pub returns-else-is_quoted-clause-again : goal.returns-else-is_quoted-clause-again
returns-else-is_quoted-clause-again c = λ whole left word is.
    let e = bare_is whole (ended left) word (sym (c.is_quoted.ensures ∙ ap begins_quoted is) ∙ c.if-is_quoted.false) in
    c.take_bare.ensures.again whole.bytes left e.0 (is ∙ ap (λ l. l ++ ended left) e.1)
