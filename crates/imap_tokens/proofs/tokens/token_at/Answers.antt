use Rattle.std.proofs.Common.{rules, ◌≡◌, ℕ, ◌∷◌, ◌∙◌, ap, arith}
use Rattle.std.proofs.lemmas.Bool.Decides.{nat_tests}
use Rattle.imap_tokens.proofs.OneToken.{on_none, quote_none, quoted_is, other_is, other_first, none_first}
use Rattle.imap_tokens.proofs.tokens.token_at.Goals as goal
use Rattle.imap_tokens.proofs.tokens.token_at.Goals.{in-Some+in_default-1, in-None-1}

pub returns-in_err-size-clause-none : goal.returns-in_err-size-clause-none
returns-in_err-size-clause-none c =
    let some = c.in-Some-eq34-default in
    let quote : some.field-0-0.now ≡ 34 = grind (arith, nat_tests) in
    on_none c.from_residual.result
    (quote_none c.args.literals.now c.args.at c.args.rest.now some.more.now
    (some.ensures.cases.0 ∙ ap (λ (b : ℕ). b ∷ some.more.now) quote) c.in_err-size.ensures.none)

pub returns-in_err-size-clause-value : goal.returns-in_err-size-clause-value
returns-in_err-size-clause-value c =
    let some = c.in-Some-eq34-default in
    let quote : some.field-0-0.now ≡ 34 = grind (arith, nat_tests) in
    rw c.from_residual.ensures (quoted_is c.args.literals.now c.args.at c.args.rest.now some.more.now _
    (some.ensures.cases.0 ∙ ap (λ (b : ℕ). b ∷ some.more.now) quote) c.in_err-size.ensures.value)

pub returns-in-Some-eq34-default-clause-value : goal.returns-in-Some-eq34-default-clause-value
returns-in-Some-eq34-default-clause-value c =
    let some = c.in-Some-eq34-default in
    let quote : some.field-0-0.now ≡ 34 = grind (arith, nat_tests) in
    quoted_is c.args.literals.now c.args.at c.args.rest.now some.more.now _
    (some.ensures.cases.0 ∙ ap (λ (b : ℕ). b ∷ some.more.now) quote) c.in_ok-size.ensures.value

pub returns-clause-value : goal.returns-clause-value
returns-clause-value c = elim c.match-split_first.branch [
  | in-Some+in_default-1 w ↦ c.other_token_at.ensures.value ∙ other_is c.args.literals.now c.args.at c.args.rest.now (search (rules, other_first, nat_tests))
  | in-None-1 w ↦ c.other_token_at.ensures.value ∙ other_is c.args.literals.now c.args.at c.args.rest.now (search (rules, none_first))
]
