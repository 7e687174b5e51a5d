-- Digits and their value: one digit more, and fewer digits.
use Rattle.std.proofs.Common.{◌≡◌, ℕ, zero, suc, ◌+◌, ◌-◌, ◌*◌, ◌<◌, ◌≤◌, List, [], ◌∷◌, ◌++◌, length, take, refl, sym, ◌∙◌, ap, subst, arith, add-one}
use Rattle.std.proofs.Math.Seq.{take-suc}
use Rattle.std.proofs.lemmas.Str.{digit_value_digit}
use Rattle.std.specs.Prelude.{slice_index}
use Rattle.std.specs.Char.{digit_value, IsAsciiDigit}
use Rattle.std.specs.Str.Parse.{AllDigits, digits_value, digits_value_after}

value_after-append : (n : ℕ) (ds : List ℕ) (c : ℕ) → digits_value_after 10 n (ds ++ c ∷ []) ≡ digits_value_after 10 n ds * 10 + digit_value c
value_after-append n [] c = refl
value_after-append n (d ∷ ds) c = value_after-append (n * 10 + digit_value d) ds c

all_digits-append : (ds : List ℕ) (c : ℕ) → AllDigits 10 ds → digit_value c < 10 → AllDigits 10 (ds ++ c ∷ [])
all_digits-append [] c all here = (here, tt)
all_digits-append (d ∷ ds) c all here = (all.0, all_digits-append ds c all.1 here)

-- the first at + 1 bytes are the first at and the byte there
front-suc : (text : List ℕ) (at : ℕ) → at < length text → take (at + 1) text ≡ take at text ++ slice_index text at ∷ []
front-suc text at there = rw add-one (take-suc text at 0 there)

-- the value of one digit more
pub value-more : (text : List ℕ) (at : ℕ) → at < length text → IsAsciiDigit (slice_index text at) →
    digits_value 10 (take (at + 1) text) ≡ digits_value 10 (take at text) * 10 + (slice_index text at - 48)
value-more text at there digit =
    let d : digit_value (slice_index text at) ≡ slice_index text at - 48 = omega (arith, digit_value_digit (slice_index text at) digit) in
    ap (digits_value 10) (front-suc text at there) ∙ value_after-append 0 (take at text) (slice_index text at)
    ∙ ap (λ v. digits_value 10 (take at text) * 10 + v) d

pub digits-more : (text : List ℕ) (at : ℕ) → at < length text → AllDigits 10 (take at text) → digit_value (slice_index text at) < 10 →
    AllDigits 10 (take (at + 1) text)
digits-more text at there all here = subst (AllDigits 10) (sym (front-suc text at there)) (all_digits-append (take at text) (slice_index text at) all here)

-- fewer digits
pub digits-fewer : (text : List ℕ) (few many : ℕ) → few ≤ many → AllDigits 10 (take many text) → AllDigits 10 (take few text)
digits-fewer text zero many le all = tt
digits-fewer [] (suc few) many le all = tt
digits-fewer (c ∷ cs) (suc few) zero le all = absurd (omega arith)
digits-fewer (c ∷ cs) (suc few) (suc many) le all = (all.0, digits-fewer cs few many (omega arith) all.1)

value_after-least : (n : ℕ) (ds : List ℕ) → n ≤ digits_value_after 10 n ds
value_after-least n [] = omega arith
value_after-least n (d ∷ ds) = omega (arith, value_after-least (n * 10 + digit_value d) ds)

value_after-fewer : (n : ℕ) (text : List ℕ) (few many : ℕ) → few ≤ many → digits_value_after 10 n (take few text) ≤ digits_value_after 10 n (take many text)
value_after-fewer n text zero many le = value_after-least n (take many text)
value_after-fewer n [] (suc few) zero le = omega arith
value_after-fewer n [] (suc few) (suc many) le = omega arith
value_after-fewer n (c ∷ cs) (suc few) zero le = absurd (omega arith)
value_after-fewer n (c ∷ cs) (suc few) (suc many) le = value_after-fewer (n * 10 + digit_value c) cs few many (omega arith)

pub value-fewer : (text : List ℕ) (few many : ℕ) → few ≤ many → digits_value 10 (take few text) ≤ digits_value 10 (take many text)
value-fewer text few many le = value_after-fewer 0 text few many le
