-- A number's digits are read as that number.
use Rattle.std.proofs.Common.{◌≡◌, ℕ, ◌<◌, ◌^◌, List, decimal, ◌∙◌, arith}
use Rattle.std.specs.Str.{IsUtf8}
use Rattle.std.specs.Str.Parse.{IsNumeral, digits_value, without_leading_plus}
use Rattle.std.proofs.lemmas.Fmt.{decimal_is_IsNumeral, IsAscii-decimal}
use Rattle.std.proofs.lemmas.Str.{IsUtf8-from_ascii}
use Rattle.std.proofs.lemmas.Str.Parse.{digit_at, without_leading_plus_none}

pub is_utf8 : (n : ℕ) (text : List ℕ) → n < 2 ^ 64 → text ≡ decimal n → IsUtf8 text
is_utf8 n text within is = rw is (IsUtf8-from_ascii (decimal n) (IsAscii-decimal n within))

no_plus : (n : ℕ) → n < 2 ^ 64 → without_leading_plus (decimal n) ≡ decimal n
no_plus n within =
    let numeral = (decimal_is_IsNumeral n within).0 in
    without_leading_plus_none (decimal n) (λ e. omega (arith, digit_at (decimal n) 0 numeral.1 numeral.0, e))

pub parsed : (n x : ℕ) (text : List ℕ) → n < 2 ^ 64 → text ≡ decimal n → x ≡ digits_value 10 (without_leading_plus text) → x ≡ n
parsed n x text within is p =
    let q = rw (is, no_plus n within) at p in
    q ∙ (decimal_is_IsNumeral n within).1

pub not_parsed : (n : ℕ) (text : List ℕ) → n < 2 ^ 64 → text ≡ decimal n →
    (IsNumeral 10 (without_leading_plus text) × (digits_value 10 (without_leading_plus text) < 2 ^ 64) → ⊥) → ⊥
not_parsed n text within is p =
    let q = rw (is, no_plus n within) at p in
    let numeral = decimal_is_IsNumeral n within in
    q (numeral.0, rw numeral.1 within)
