use Rattle.std.proofs.Common.{◌≡◌, ◌∙◌, ap, sym, decimal, get_or}
use Rattle.mail_base.specs.declared.tag.Tag.TheVariants.{Again}
use Rattle.command_texts.proofs.Cuts.{no_try, second_try, third_try}
use Rattle.command_texts.proofs.reading.tags.tag_of_try.Goals as goal

pub returns-then-digit-eq50-clause-later : goal.returns-then-digit-eq50-clause-later
returns-then-digit-eq50-clause-later c = λ t low high is.
    let digit : c.byte_at-digit.result ≡ get_or (decimal t) 0 0 = c.byte_at-digit.ensures ∙ ap (λ x. get_or x 0 0) is in
    ap (Again c.args.id) (second_try t low high (sym digit ∙ c.if-digit-eq50.true))

pub returns-then-digit-eq51-clause-later : goal.returns-then-digit-eq51-clause-later
returns-then-digit-eq51-clause-later c = λ t low high is.
    let digit : c.byte_at-digit.result ≡ get_or (decimal t) 0 0 = c.byte_at-digit.ensures ∙ ap (λ x. get_or x 0 0) is in
    ap (Again c.args.id) (third_try t low high (sym digit ∙ c.if-digit-eq51.true))

pub returns-clause-later : goal.returns-clause-later
returns-clause-later c = λ t low high is.
    let digit : c.byte_at-digit.result ≡ get_or (decimal t) 0 0 = c.byte_at-digit.ensures ∙ ap (λ x. get_or x 0 0) is in
    absurd (no_try t low high (λ e. c.if-digit-eq50.false (digit ∙ e)) (λ e. c.if-digit-eq51.false (digit ∙ e)))
