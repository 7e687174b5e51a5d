-- Numbers in decimal digits (RFC 9051, section 9: number = 1*DIGIT), and where a text stops being one.
use Rattle.std.specs.Prelude.{◌≡◌, ℕ, ◌+◌, ◌≤◌, ◌<◌, List, [], length, take, slice_index, Result, MatchResult}
use Rattle.std.specs.Str.Parse.{IsNumeral, AllDigits, digits_value}
use Rattle.std.specs.Char.{IsAsciiDigit}
use Rattle.mail_base.specs.declared.number.NumberFault.{NumberFault}
use Rattle.mail_base.specs.declared.number.NumberFault.TheVariants as faults

-- the text is the digits of this number, which is at most the largest one
pub record IsNumberUpTo (largest : ℕ) (text : List ℕ) (number : ℕ) : Type 0 where
  pub digits : IsNumeral 10 text
  pub value : digits_value 10 text ≡ number
  pub fits : number ≤ largest

-- in front of this place there are digits alone, and they write no number above the largest one
pub record FitsBefore (largest : ℕ) (text : List ℕ) (place : ℕ) : Type 0 where
  pub within : place ≤ length text
  pub digits : AllDigits 10 (take place text)
  pub fits : digits_value 10 (take place text) ≤ largest

-- so far the text is a number that fits, and the byte at this place is no digit
pub record StopsAtByte (largest : ℕ) (text : List ℕ) (place : ℕ) : Type 0 where
  pub before : FitsBefore largest text place
  pub there : place < length text
  pub other : IsAsciiDigit (slice_index text place) → ⊥

-- so far the text is a number that fits, and with the digit at this place it exceeds the largest one
pub record StopsAtSize (largest : ℕ) (text : List ℕ) (place : ℕ) : Type 0 where
  pub before : FitsBefore largest text place
  pub there : place < length text
  pub digit : IsAsciiDigit (slice_index text place)
  pub exceeds : largest < digits_value 10 (take (place + 1) text)

-- why the text is no number up to the largest one
abbrev pub WhyNoNumber : ℕ → List ℕ → NumberFault → Type 0
WhyNoNumber largest text faults.Empty = text ≡ []
WhyNoNumber largest text (faults.NotDigit at) = StopsAtByte largest text at
WhyNoNumber largest text (faults.TooBig at) = StopsAtSize largest text at
WhyNoNumber largest text faults.Zero = ⊥

-- the number that the text is, or why it is none
abbrev pub Verdict : ℕ → List ℕ → Result ℕ NumberFault → Type 0
Verdict largest text answer = MatchResult answer (λ n. IsNumberUpTo largest text n) (λ fault. WhyNoNumber largest text fault)
