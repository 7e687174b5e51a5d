use Rattle.std.proofs.Common.{◌∷◌, ◌++◌, ◌∙◌, sym, append_assoc, decimal, refl, arith}
use Rattle.command_texts.proofs.Cuts.{digits_lack, tried_lacks}
use Rattle.command_texts.proofs.ArgumentReading.{first_same, rest_same}
use Rattle.command_texts.proofs.reading.tags.tagged.Goals as goal

pub returns-in-Some-clause-played : goal.returns-in-Some-clause-played
returns-in-Some-clause-played c = λ n rest fits is.
    let cut = c.until.ensures.cut (decimal n) rest (digits_lack 32 n (omega (arith, fits)) refl) (rest_same _ _ _ _ _ c.in_ok-letter.ensures.cases is) in
    let found = c.in-Some.ensures.played n fits (first_same _ _ _ _ _ c.in_ok-letter.ensures.cases is) cut.0 in
    (cc, cut.1)

pub returns-in-None-clause-played : goal.returns-in-None-clause-played
returns-in-None-clause-played c = λ n rest fits is.
    let cut = c.until.ensures.cut (decimal n) rest (digits_lack 32 n (omega (arith, fits)) refl) (rest_same _ _ _ _ _ c.in_ok-letter.ensures.cases is) in
    let found = c.in-None.ensures.played n fits (first_same _ _ _ _ _ c.in_ok-letter.ensures.cases is) cut.0 in
    cc

pub returns-in-Some-clause-again : goal.returns-in-Some-clause-again
returns-in-Some-clause-again c = λ n t rest fits low high is.
    let cut = c.until.ensures.cut (decimal n ++ 82 ∷ decimal t) rest (tried_lacks n t (omega (arith, fits)) (omega (arith, high)))
    (rest_same _ _ _ _ _ c.in_ok-letter.ensures.cases is ∙ sym (append_assoc (decimal n) (82 ∷ decimal t) (32 ∷ rest))) in
    let found = c.in-Some.ensures.again n t fits low high (first_same _ _ _ _ _ c.in_ok-letter.ensures.cases is) cut.0 in
    (cc, cut.1)

pub returns-in-None-clause-again : goal.returns-in-None-clause-again
returns-in-None-clause-again c = λ n t rest fits low high is.
    let cut = c.until.ensures.cut (decimal n ++ 82 ∷ decimal t) rest (tried_lacks n t (omega (arith, fits)) (omega (arith, high)))
    (rest_same _ _ _ _ _ c.in_ok-letter.ensures.cases is ∙ sym (append_assoc (decimal n) (82 ∷ decimal t) (32 ∷ rest))) in
    let found = c.in-None.ensures.again n t fits low high (first_same _ _ _ _ _ c.in_ok-letter.ensures.cases is) cut.0 in
    cc

pub returns-in-Some-clause-counted : goal.returns-in-Some-clause-counted
returns-in-Some-clause-counted c = λ n rest fits is.
    let cut = c.until.ensures.cut (decimal n) rest (digits_lack 32 n (omega (arith, fits)) refl) (rest_same _ _ _ _ _ c.in_ok-letter.ensures.cases is) in
    let found = c.in-Some.ensures.counted n fits (first_same _ _ _ _ _ c.in_ok-letter.ensures.cases is) cut.0 in
    (cc, cut.1)

pub returns-in-None-clause-counted : goal.returns-in-None-clause-counted
returns-in-None-clause-counted c = λ n rest fits is.
    let cut = c.until.ensures.cut (decimal n) rest (digits_lack 32 n (omega (arith, fits)) refl) (rest_same _ _ _ _ _ c.in_ok-letter.ensures.cases is) in
    let found = c.in-None.ensures.counted n fits (first_same _ _ _ _ _ c.in_ok-letter.ensures.cases is) cut.0 in
    cc
