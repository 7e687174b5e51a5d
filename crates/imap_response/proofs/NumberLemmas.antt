-- A number is read from digits alone, and in one way.
use Rattle.std.proofs.Common.{◌≡◌, ℕ, ◌<◌, ◌≤◌, Bool, true, false, List, [], ◌∷◌, length, take, Option, Some, None, refl, ◌∙◌, ap, subst, inl, inr, arith}
use Rattle.std.proofs.Math.Seq.{take-length}
use Rattle.std.proofs.lemmas.Bool.{cases_Bool}
use Rattle.std.proofs.lemmas.Bool.Decides.{nat_tests}
use Rattle.std.proofs.lemmas.List.{get_or-take}
use Rattle.std.proofs.lemmas.List.Sums.{prefix_len_passes}
use Rattle.std.proofs.lemmas.List.Folds.{length-prefix_len}
use Rattle.std.proofs.lemmas.Str.Parse.{digit_from_value, tells_by_index, numerals_by_value}
use Rattle.std.specs.Prelude.{◌&&◌, ◌==◌, nat_le}
use Rattle.std.specs.List.{prefix_len}
use Rattle.std.specs.Char.{is_ascii_digit}
use Rattle.std.specs.Int.{IsInRange}
use Rattle.std.specs.Str.Parse.{AllDigits, digits_value}
use Rattle.mail_base.specs.Number.{IsNumberUpTo}
use Rattle.imap_response.specs.Leaf.{is_digits}
use Rattle.imap_response.specs.ReadNumbers.{number_of, nonzero}

digit_in_range : (c : ℕ) → is_ascii_digit c ≡ true → IsInRange 48 57 c
digit_in_range c is = grind (arith, nat_tests)

pub range_is_digit : (c : ℕ) → IsInRange 48 57 c → is_ascii_digit c ≡ true
range_is_digit c within = grind (arith, nat_tests)

pub digits_front : (text : List ℕ) → AllDigits 10 (take (prefix_len is_ascii_digit text) text)
digits_front text =
    let digits = take (prefix_len is_ascii_digit text) text in
    (numerals_by_value _ tells_by_index).to digits (λ i within.
    let below : i < prefix_len is_ascii_digit text = rw length-prefix_len at within in
    rw (get_or-take _ text i 0 below) (digit_in_range _ (prefix_len_passes is_ascii_digit text i 0 below)))

pub all_run : (text : List ℕ) → AllDigits 10 text → prefix_len is_ascii_digit text ≡ length text
all_run [] all = refl
all_run (c ∷ cs) all = rw (range_is_digit c (digit_from_value c all.0)) (omega (arith, all_run cs all.1))

pub run_all : (text : List ℕ) → prefix_len is_ascii_digit text ≡ length text → AllDigits 10 text
run_all text whole = subst (AllDigits 10) (ap (λ n. take n text) whole ∙ take-length text) (digits_front text)

abbrev pub test_of : ℕ → List ℕ → Bool
test_of largest text = is_digits text && nat_le (digits_value 10 text) largest

is_true : (largest n : ℕ) (text : List ℕ) → IsNumberUpTo largest text n → test_of largest text ≡ true
is_true largest n text is =
    let whole : prefix_len is_ascii_digit text ≡ length text = all_run text is.digits.1 in
    let some : 0 < length text = is.digits.0 in
    let fits : digits_value 10 text ≤ largest = omega (arith, is.value, is.fits) in
    grind (arith, nat_tests)

pub true_is : (largest : ℕ) (text : List ℕ) → test_of largest text ≡ true → IsNumberUpTo largest text (digits_value 10 text)
true_is largest text test =
    let some : 0 < length text = grind (arith, nat_tests) in
    let whole : prefix_len is_ascii_digit text ≡ length text = grind (arith, nat_tests) in
    let fits : digits_value 10 text ≤ largest = grind (arith, nat_tests) in
    record { digits = (some, run_all text whole); value = refl; fits = fits }

-- the number that a text is, is the one that is read
pub number_some : (largest n : ℕ) (text : List ℕ) → IsNumberUpTo largest text n → number_of largest text ≡ Some n
unfolding number_of
number_some largest n text is = rw (is_true largest n text is) (ap Some is.value)

-- and where it is none, none is read
pub number_none : (largest : ℕ) (text : List ℕ) → ((n : ℕ) → IsNumberUpTo largest text n → ⊥) → number_of largest text ≡ None
unfolding number_of
number_none largest text none = elim (cases_Bool (test_of largest text)) [
  | inl test ↦ absurd (none (digits_value 10 text) (true_is largest text test))
  | inr test ↦ rw test refl
]

-- the same for a number that isn't 0
pub nonzero_reads : (o : Option ℕ) (n : ℕ) → o ≡ Some n → 0 < n → nonzero o ≡ Some n
nonzero_reads o n is positive = let test : (n == 0) ≡ false = grind (arith, nat_tests) in rw (is, test) refl

pub nonzero_none : (largest : ℕ) (text : List ℕ) → ((n : ℕ) → IsNumberUpTo largest text n → 0 < n → ⊥) → nonzero (number_of largest text) ≡ None
unfolding number_of
nonzero_none largest text none = elim (cases_Bool (test_of largest text)) [
  | inl test ↦ elim (cases_Bool (digits_value 10 text == 0)) [
    | inl zero ↦ rw (test, zero) refl
    | inr some ↦ absurd (none (digits_value 10 text) (true_is largest text test) (grind (arith, nat_tests)))
  ]
  | inr test ↦ rw test refl
]
