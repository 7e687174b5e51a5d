use Rattle.std.proofs.Common.{◌≡◌, ◌∙◌, ℕ, ap, sym, Some, decimal, refl, arith}
use Rattle.std.proofs.lemmas.Option.{same_Some}
use Rattle.mail_base.specs.declared.tag.Tag.{Tag}
use Rattle.mail_base.specs.declared.tag.Tag.TheVariants.{Play, Again, Count}
use Rattle.command_texts.proofs.Cuts.{digits_lack}
use Rattle.command_texts.proofs.reading.tags.tag_of.Goals as goal

pub returns-in_default-clause-played : goal.returns-in_default-clause-played
returns-in_default-clause-played c = λ n fits letter is.
    let cut = c.until.ensures.missing (rw is (digits_lack 82 n (omega (arith, fits)) refl)) in
    absurd (c.in_default.not-Some n (c.number_of.ensures n fits (cut.0 ∙ is)))

pub returns-in_default-clause-again : goal.returns-in_default-clause-again
returns-in_default-clause-again c = λ n t fits low high letter is.
    let cut = c.until.ensures.cut (decimal n) (decimal t) (digits_lack 82 n (omega (arith, fits)) refl) is in
    absurd (c.in_default.not-Some n (c.number_of.ensures n fits cut.0))

pub returns-in_default-clause-counted : goal.returns-in_default-clause-counted
returns-in_default-clause-counted c = λ n fits letter is.
    let cut = c.until.ensures.missing (rw is (digits_lack 82 n (omega (arith, fits)) refl)) in
    absurd (c.in_default.not-Some n (c.number_of.ensures n fits (cut.0 ∙ is)))

pub returns-then-letter-eq80-clause-played : goal.returns-then-letter-eq80-clause-played
returns-then-letter-eq80-clause-played c = λ n fits letter is.
    let cut = c.until.ensures.missing (rw is (digits_lack 82 n (omega (arith, fits)) refl)) in
    let same : c.in-Some.number ≡ n = same_Some _ _ (sym c.in-Some.is ∙ c.number_of.ensures n fits (cut.0 ∙ is)) in
    ap (λ (x : Tag). Some x) (c.tag_of_try.ensures.first cut.1 ∙ ap Play same)

pub returns-then-letter-eq80-clause-again : goal.returns-then-letter-eq80-clause-again
returns-then-letter-eq80-clause-again c = λ n t fits low high letter is.
    let cut = c.until.ensures.cut (decimal n) (decimal t) (digits_lack 82 n (omega (arith, fits)) refl) is in
    let same : c.in-Some.number ≡ n = same_Some _ _ (sym c.in-Some.is ∙ c.number_of.ensures n fits cut.0) in
    ap (λ (x : Tag). Some x) (c.tag_of_try.ensures.later t low high cut.1 ∙ ap (λ m. Again m t) same)

pub returns-then-letter-eq67-clause-counted : goal.returns-then-letter-eq67-clause-counted
returns-then-letter-eq67-clause-counted c = λ n fits letter is.
    let cut = c.until.ensures.missing (rw is (digits_lack 82 n (omega (arith, fits)) refl)) in
    let same : c.in-Some.number ≡ n = same_Some _ _ (sym c.in-Some.is ∙ c.number_of.ensures n fits (cut.0 ∙ is)) in
    ap (λ (m : ℕ). Some (Count m)) same
