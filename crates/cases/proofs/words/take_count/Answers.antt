use Rattle.std.proofs.Common.{◌++◌, ◌∙◌, decimal, unwrap_or, ap, sym, refl, arith}
use Rattle.std.specs.Char.{is_ascii_digit}
use Rattle.imap_model.proofs.Cutting.{all_digits}
use Rattle.cases.specs.Reading.{repeated}
use Rattle.cases.proofs.ReadAgain.{back_is, front_is}
use Rattle.cases.proofs.words.take_count.Goals as goal

pub returns-in_default-clause-again : goal.returns-in_default-clause-again
returns-in_default-clause-again c = λ count left small is.
    let front = front_is is_ascii_digit c.args.counted.now (decimal count) c.split_at.result.0.now left c.digits_end.result (all_digits count (omega (arith, small)))
    refl is c.digits_end.ensures.value c.split_at.ensures.front in
    absurd (c.in_default.not-Some count (c.number_of.ensures.value count (omega (arith, small)) front))

pub returns-clause-again : goal.returns-clause-again
returns-clause-again c = λ count left small is.
    let front = front_is is_ascii_digit c.args.counted.now (decimal count) c.split_at.result.0.now left c.digits_end.result (all_digits count (omega (arith, small)))
    refl is c.digits_end.ensures.value c.split_at.ensures.front in
    let back = back_is is_ascii_digit c.args.counted.now (decimal count) c.split_at.result.1.now left c.digits_end.result (all_digits count (omega (arith, small)))
    refl is c.digits_end.ensures.value c.split_at.ensures.back in
    let same = ap (λ o. unwrap_or o 0) (sym c.in-Some.is ∙ c.number_of.ensures.value count (omega (arith, small)) front) in
    ((back, c.in_ok-put_repeated.ensures (omega (arith, small, same)) ∙ ap (λ n. c.args.word.now.items ++ repeated n c.args.once.now) same), tt)
