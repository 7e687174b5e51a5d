-- A text is a number, or it stops being one at one place for one cause.
use Rattle.std.proofs.Common.{◌≡◌, inl, inr, ℕ, ◌+◌, ◌-◌, ◌*◌, ◌/◌, ◌<◌, ◌≤◌, List, [], length, take, refl, sym, ◌∙◌, ap, subst, arith}
use Rattle.std.proofs.Common.{get_or-take, Result, Ok, Err, length-take}
use Rattle.std.proofs.Math.Seq.{take-length}
use Rattle.std.proofs.lemmas.Bool.{cases_lt}
use Rattle.std.proofs.lemmas.Str.Parse.{digit_at}
use Rattle.std.specs.Prelude.{slice_index, ◌↔◌}
use Rattle.std.specs.Char.{digit_value, IsAsciiDigit}
use Rattle.std.specs.Str.Parse.{AllDigits, digits_value}
use Rattle.mail_base.specs.Number.{IsNumberUpTo, FitsBefore, StopsAtByte, StopsAtSize, WhyNoNumber, Verdict}
use Rattle.mail_base.specs.declared.number.NumberFault.{NumberFault}
use Rattle.mail_base.specs.declared.number.NumberFault.TheVariants as faults
use Rattle.mail_base.proofs.Digits.{digits-more, digits-fewer, value-fewer, value-more}

fits_fewer : (largest : ℕ) (text : List ℕ) (few many : ℕ) → few ≤ many → FitsBefore largest text many → FitsBefore largest text few
fits_fewer largest text few many le fits = record {
  within = omega (arith, fits.within);
  digits = digits-fewer text few many le fits.digits;
  fits = omega (arith, value-fewer text few many le, fits.fits);
}

number_fits : (largest : ℕ) (text : List ℕ) (n : ℕ) → IsNumberUpTo largest text n → FitsBefore largest text (length text)
number_fits largest text n is = record {
  within = omega arith;
  digits = subst (AllDigits 10) (sym (take-length text)) is.digits.1;
  fits = omega (arith, ap (digits_value 10) (take-length text), is.value, is.fits);
}

-- One digit more: it fits where the number so far is at most this quotient, and else it exceeds the largest number.
module _ (largest : ℕ) (text : List ℕ) (at number : ℕ) (so_far : FitsBefore largest text at) (is : number ≡ digits_value 10 (take at text))
    (there : at < length text) (digit : IsAsciiDigit (slice_index text at)) (enough : 9 ≤ largest) where
  value_is : digits_value 10 (take (at + 1) text) ≡ number * 10 + (slice_index text at - 48)
  value_is = omega (arith, value-more text at there digit, is)

  pub fits_here : digit_value (slice_index text at) < 10 → number ≤ (largest - (slice_index text at - 48)) / 10 →
      FitsBefore largest text (at + 1) × (number * 10 + (slice_index text at - 48) ≡ digits_value 10 (take (at + 1) text))
  fits_here small room = (
    record {
      within = omega (arith, there);
      digits = digits-more text at there so_far.digits small;
      fits =
          omega (arith, value_is, room, digit.0, digit.1, enough);
    },
    sym value_is,
  )

  pub exceeds_here : (largest - (slice_index text at - 48)) / 10 < number → StopsAtSize largest text at
  exceeds_here past = record { before = so_far; there = there; digit = digit; exceeds = omega (arith, value_is, past, digit.0, digit.1, enough) }

-- the text stops being a number here
record Stops (largest : ℕ) (text : List ℕ) (place : ℕ) : Type 0 where
  before : FitsBefore largest text place
  there : place < length text
  beyond : FitsBefore largest text (place + 1) → ⊥

byte_stops : (largest : ℕ) (text : List ℕ) (place : ℕ) → StopsAtByte largest text place → Stops largest text place
byte_stops largest text place stop = record {
  before = stop.before;
  there = stop.there;
  beyond = λ fits.
      let at = digit_at (take (place + 1) text) place fits.digits (omega (arith, length-take (place + 1) text, stop.there)) in
      stop.other (subst IsAsciiDigit (get_or-take (place + 1) text place 0 (omega arith)) at);
}

size_stops : (largest : ℕ) (text : List ℕ) (place : ℕ) → StopsAtSize largest text place → Stops largest text place
size_stops largest text place stop = record { before = stop.before; there = stop.there; beyond = λ fits. omega (arith, fits.fits, stop.exceeds) }

-- it does so at one place
same_stop : (largest : ℕ) (text : List ℕ) (here there : ℕ) → Stops largest text here → Stops largest text there → here ≡ there
same_stop largest text here there a b = elim (cases_lt here there) [
  | inl lt ↦ absurd (a.beyond (fits_fewer largest text (here + 1) there (omega arith) b.before))
  | inr le ↦ elim (cases_lt there here) [
    | inl lt' ↦ absurd (b.beyond (fits_fewer largest text (there + 1) here (omega arith) a.before))
    | inr le' ↦ omega arith
  ]
]

-- and a number stops nowhere
never_stops : (largest : ℕ) (text : List ℕ) (n place : ℕ) → IsNumberUpTo largest text n → Stops largest text place → ⊥
never_stops largest text n place is stop = stop.beyond (fits_fewer largest text (place + 1) (length text) (omega (arith, stop.there))
    (number_fits largest text n is))

one_number : (largest : ℕ) (text : List ℕ) (m n : ℕ) → IsNumberUpTo largest text m → IsNumberUpTo largest text n → m ≡ n
one_number largest text m n a b = sym a.value ∙ b.value

not_both : (largest : ℕ) (text : List ℕ) (here there : ℕ) → StopsAtByte largest text here → StopsAtSize largest text there → ⊥
not_both largest text here there a b =
    let same = same_stop largest text here there (byte_stops largest text here a) (size_stops largest text there b) in
    a.other (subst (λ k. IsAsciiDigit (slice_index text k)) (sym same) b.digit)

no_bytes : (largest : ℕ) (text : List ℕ) (place : ℕ) → text ≡ [] → Stops largest text place → ⊥
no_bytes largest text place is stop = omega (arith, ap length is, stop.there)

no_number : (largest : ℕ) (text : List ℕ) (n : ℕ) → text ≡ [] → IsNumberUpTo largest text n → ⊥
no_number largest text n is number = omega (arith, ap length is, number.digits.0)

-- So an answer with a true cause is the only one.
module _ (largest : ℕ) (text : List ℕ) where
  from_number : (r : Result ℕ NumberFault) (n : ℕ) → Verdict largest text r → IsNumberUpTo largest text n → r ≡ Ok n
  from_number (Ok m) n is number = ap (λ k. Ok k) (one_number largest text m n is number)
  from_number (Err faults.Empty) n is number = absurd (no_number largest text n is number)
  from_number (Err (faults.NotDigit at)) n is number = absurd (never_stops largest text n at number (byte_stops largest text at is))
  from_number (Err (faults.TooBig at)) n is number = absurd (never_stops largest text n at number (size_stops largest text at is))
  from_number (Err faults.Zero) n is number = absurd is

  from_empty : (r : Result ℕ NumberFault) → Verdict largest text r → text ≡ [] → r ≡ Err faults.Empty
  from_empty (Ok m) is empty = absurd (no_number largest text m empty is)
  from_empty (Err faults.Empty) is empty = refl
  from_empty (Err (faults.NotDigit at)) is empty = absurd (no_bytes largest text at empty (byte_stops largest text at is))
  from_empty (Err (faults.TooBig at)) is empty = absurd (no_bytes largest text at empty (size_stops largest text at is))
  from_empty (Err faults.Zero) is empty = absurd is

  from_byte : (r : Result ℕ NumberFault) (at : ℕ) → Verdict largest text r → StopsAtByte largest text at → r ≡ Err (faults.NotDigit at)
  from_byte (Ok m) at is stop = absurd (never_stops largest text m at is (byte_stops largest text at stop))
  from_byte (Err faults.Empty) at is stop = absurd (no_bytes largest text at is (byte_stops largest text at stop))
  from_byte (Err (faults.NotDigit place)) at is stop = ap (λ k. Err (faults.NotDigit k))
      (same_stop largest text place at (byte_stops largest text place is) (byte_stops largest text at stop))
  from_byte (Err (faults.TooBig place)) at is stop = absurd (not_both largest text at place stop is)
  from_byte (Err faults.Zero) at is stop = absurd is

  from_size : (r : Result ℕ NumberFault) (at : ℕ) → Verdict largest text r → StopsAtSize largest text at → r ≡ Err (faults.TooBig at)
  from_size (Ok m) at is stop = absurd (never_stops largest text m at is (size_stops largest text at stop))
  from_size (Err faults.Empty) at is stop = absurd (no_bytes largest text at is (size_stops largest text at stop))
  from_size (Err (faults.NotDigit place)) at is stop = absurd (not_both largest text place at is stop)
  from_size (Err (faults.TooBig place)) at is stop = ap (λ k. Err (faults.TooBig k))
      (same_stop largest text place at (size_stops largest text place is) (size_stops largest text at stop))
  from_size (Err faults.Zero) at is stop = absurd is

  to_number : (r : Result ℕ NumberFault) (n : ℕ) → Verdict largest text r → r ≡ Ok n → IsNumberUpTo largest text n
  to_number r n is same = subst (Verdict largest text) same is

  to_empty : (r : Result ℕ NumberFault) → Verdict largest text r → r ≡ Err faults.Empty → text ≡ []
  to_empty r is same = subst (Verdict largest text) same is

  to_byte : (r : Result ℕ NumberFault) (at : ℕ) → Verdict largest text r → r ≡ Err (faults.NotDigit at) → StopsAtByte largest text at
  to_byte r at is same = subst (Verdict largest text) same is

  to_size : (r : Result ℕ NumberFault) (at : ℕ) → Verdict largest text r → r ≡ Err (faults.TooBig at) → StopsAtSize largest text at
  to_size r at is same = subst (Verdict largest text) same is

  to_zero : (r : Result ℕ NumberFault) → Verdict largest text r → r ≡ Err faults.Zero → ⊥
  to_zero r is same = subst (Verdict largest text) same is

  -- what a reader promises of its answer
  pub record Exactly (r : Result ℕ NumberFault) : Type 0 where
    pub value : (n : ℕ) → (r ≡ Ok n) ↔ IsNumberUpTo largest text n
    pub empty : (r ≡ Err faults.Empty) ↔ (text ≡ [])
    pub not_digit : (at : ℕ) → (r ≡ Err (faults.NotDigit at)) ↔ StopsAtByte largest text at
    pub too_big : (at : ℕ) → (r ≡ Err (faults.TooBig at)) ↔ StopsAtSize largest text at
    pub not_zero : r ≡ Err faults.Zero → ⊥

  pub exactly : (r : Result ℕ NumberFault) → Verdict largest text r → Exactly r
  exactly r is = record {
    value = λ n. (to_number r n is, from_number r n is);
    empty = (to_empty r is, from_empty r is);
    not_digit = λ at. (to_byte r at is, from_byte r at is);
    too_big = λ at. (to_size r at is, from_size r at is);
    not_zero = to_zero r is;
  }

  -- and of its answer where 0 isn't allowed
  pub record ExactlyNonzero (r : Result ℕ NumberFault) : Type 0 where
    pub value : (n : ℕ) → (r ≡ Ok n) ↔ (IsNumberUpTo largest text n × (0 < n))
    pub empty : (r ≡ Err faults.Empty) ↔ (text ≡ [])
    pub not_digit : (at : ℕ) → (r ≡ Err (faults.NotDigit at)) ↔ StopsAtByte largest text at
    pub too_big : (at : ℕ) → (r ≡ Err (faults.TooBig at)) ↔ StopsAtSize largest text at
    pub zero : (r ≡ Err faults.Zero) ↔ IsNumberUpTo largest text 0

  pub exactly_zero : IsNumberUpTo largest text 0 → ExactlyNonzero (Err faults.Zero)
  exactly_zero is = record {
    value = λ n. (λ same. absurd (cc same), λ both. let same = one_number largest text 0 n is both.0 in absurd (omega (arith, same, both.1)));
    empty = (λ same. absurd (cc same), λ empty. absurd (no_number largest text 0 empty is));
    not_digit = λ at. (λ same. absurd (cc same), λ stop. absurd (never_stops largest text 0 at is (byte_stops largest text at stop)));
    too_big = λ at. (λ same. absurd (cc same), λ stop. absurd (never_stops largest text 0 at is (size_stops largest text at stop)));
    zero = (λ same. is, λ number. refl);
  }

  pub exactly_number : (m : ℕ) → 0 < m → IsNumberUpTo largest text m → ExactlyNonzero (Ok m)
  exactly_number m nonzero is =
      let e = exactly (Ok m) is in
      record {
        value = λ n. (λ same. let m_is_n : m ≡ n = cc same in ((e.value n).0 same, omega (arith, m_is_n, nonzero)), λ both. (e.value n).1 both.0);
        empty = e.empty;
        not_digit = e.not_digit;
        too_big = e.too_big;
        zero = (λ same. absurd (cc same), λ number. let same = one_number largest text m 0 is number in absurd (omega (arith, same, nonzero)));
      }

  pub exactly_fault : (fault : NumberFault) → WhyNoNumber largest text fault → ExactlyNonzero (Err fault)
  exactly_fault fault is =
      let e = exactly (Err fault) is in
      record {
        value = λ n. (λ same. absurd (cc same), λ both. (e.value n).1 both.0);
        empty = e.empty;
        not_digit = e.not_digit;
        too_big = e.too_big;
        zero = (λ same. absurd (e.not_zero same), λ number. absurd (cc ((e.value 0).1 number)));
      }
