use Rattle.std.proofs.Common.{◌≡◌, ◌+◌, ◌*◌, ◌-◌, ℕ, get_or, take, ap, sym, ◌∙◌, arith}
use Rattle.std.proofs.lemmas.Str.Parse.{digit_at}
use Rattle.std.specs.Prelude.{min}
use Rattle.std.specs.Str.Parse.{digits_value}
use Rattle.mail_base.proofs.Digits.{value-more}
use Rattle.mail_base.proofs.literal_header.number_of.Goals as goal

pub overflow_sub-byte : goal.overflow_sub-byte
overflow_sub-byte c = omega (arith, (digit_at c.args.digits.now c.loop-at.at c.requires c.loop-at-test.true).0)

pub with_digit-number-requires : goal.with_digit-number-requires
with_digit-number-requires c = omega (arith, (digit_at c.args.digits.now c.loop-at.at c.requires c.loop-at-test.true).1)

capped : (v n d r : ℕ) → n ≡ min v 18446744073709551615 → r ≡ min (n * 10 + d) 18446744073709551615 → r ≡ min (v * 10 + d) 18446744073709551615
capped v n d r is step = omega (arith, is, step)

pub loop-at-preserved : goal.loop-at-preserved
loop-at-preserved c =
    let text = c.args.digits.now in
    let at = c.loop-at.at in
    let digit : ℕ = get_or text at 0 - 48 in
    let more = value-more text at c.loop-at-test.true (digit_at text at c.requires c.loop-at-test.true) in
    let step : c.with_digit-number.result ≡ min (c.loop-at.number * 10 + digit) 18446744073709551615 =
    c.with_digit-number.ensures ∙ ap (λ (d : ℕ). min (c.loop-at.number * 10 + d) 18446744073709551615) c.from.ensures in
    capped (digits_value 10 (take at text)) c.loop-at.number digit c.with_digit-number.result c.loop-at.invariant step
    ∙ ap (λ (v : ℕ). min v 18446744073709551615) (sym more)
