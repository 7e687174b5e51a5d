-- Numbers, words and sets as they are written, and what they spell.
use Rattle.std.proofs.Common.{◌≡◌, ℕ, ◌+◌, ◌<◌, ◌^◌, Bool, true, false, cond, List, [], ◌∷◌, ◌++◌, refl, arith, length, decimal}
use Rattle.std.proofs.lemmas.Bool.Decides.{nat_tests}
use Rattle.std.proofs.lemmas.Fmt.{decimal_is_IsNumeral, decimal_nonempty}
use Rattle.std.proofs.lemmas.Str.Parse.{tells_digits}
use Rattle.std.specs.Prelude.{◌==◌, ◌≢◌}
use Rattle.std.specs.Char.{is_ascii_digit}
use Rattle.std.specs.Int.{IsInRange}
use Rattle.std.specs.List.{AllByRecursion, list_all}
use Rattle.std.specs.Str.Parse.{AllDigits}
use Rattle.flag_set.specs.Flag.{is_atom_byte}
use Rattle.uid_sets.specs.Spelling.{range_text, set_text}
use Rattle.uid_sets.specs.UidSet.{RisesAbove, IsCanonical}
use Rattle.uid_sets.specs.declared.uid.UidRange.{UidRange}
use Rattle.imap_model.specs.Numbers.{IsNumber, IsNonzero, IsModSeq}
use Rattle.imap_model.specs.Words.{Stops, is_word_byte, AreWords}
use Rattle.response_lines.specs.Bracketed.{is_inner_byte}
use Rattle.response_lines.specs.LineTexts.{◌⌢◌, words_text}
use Rattle.response_lines.specs.Tellable.{IsAtomic}
use Rattle.response_lines.proofs.PlainLines.{is_quiet_byte, both_true, all_join, all_weaker, quiet_open, one_space, word_unspaced, is_a_word}

range_digit : (c : ℕ) → IsInRange 48 57 c → is_ascii_digit c ≡ true
range_digit c within = grind (arith, nat_tests)

digits_all : (text : List ℕ) → AllDigits 10 text → list_all is_ascii_digit text ≡ true
digits_all [] all = refl
digits_all (c ∷ cs) all = let both = tells_digits.parts c cs all in
    both_true (is_ascii_digit c) (list_all is_ascii_digit cs) (range_digit c both.0) (digits_all cs both.1)

-- a number's bytes
pub decimal_all : (p : ℕ → Bool) → ((b : ℕ) → is_ascii_digit b ≡ true → p b ≡ true) → (n : ℕ) → n < 2 ^ 64 → list_all p (decimal n) ≡ true
decimal_all p each n h = all_weaker is_ascii_digit p each (decimal n) (digits_all (decimal n) (decimal_is_IsNumeral n h).0.1)

some_bytes : (text : List ℕ) → 0 < length text → text ≢ []
some_bytes [] h e = absurd (omega arith)
some_bytes (b ∷ text) h e = cc

pub decimal_some : (n : ℕ) → n < 2 ^ 64 → decimal n ≢ []
decimal_some n h = some_bytes (decimal n) (decimal_nonempty n h)

pub digit_inner : (b : ℕ) → is_ascii_digit b ≡ true → is_inner_byte b ≡ true
digit_inner b h = grind (arith, nat_tests)

pub digit_word : (b : ℕ) → is_ascii_digit b ≡ true → is_word_byte b ≡ true
digit_word b h = grind (arith, nat_tests)

pub digit_quiet : (b : ℕ) → is_ascii_digit b ≡ true → is_quiet_byte b ≡ true
digit_quiet b h = grind (arith, nat_tests)

pub a_number : (n : ℕ) → n < 2 ^ 32 → IsNumber (decimal n) n
a_number n h = let numeral = decimal_is_IsNumeral n (omega arith) in record { digits = numeral.0; value = numeral.1; fits = omega arith }

pub a_nonzero : (n : ℕ) → 0 < n → n < 2 ^ 32 → IsNonzero (decimal n) n
a_nonzero n some h = (a_number n h, some)

pub a_modseq : (n : ℕ) → 0 < n → n < 2 ^ 63 → IsModSeq (decimal n) n
a_modseq n some h = let numeral = decimal_is_IsNumeral n (omega arith) in (record { digits = numeral.0; value = numeral.1; fits = omega arith }, some)

-- a set's bytes: digits, commas and colons
module _ (p : ℕ → Bool) (each : (b : ℕ) → is_ascii_digit b ≡ true → p b ≡ true) (comma : p 44 ≡ true) (colon : p 58 ≡ true) where
  both_ends : (low high : ℕ) → low < 2 ^ 64 → high < 2 ^ 64 → list_all p (decimal low ++ 58 ∷ decimal high) ≡ true
  both_ends low high h k = all_join p (decimal low) (58 ∷ decimal high) (decimal_all p each low h)
      (both_true (p 58) (list_all p (decimal high)) colon (decimal_all p each high k))

  range_all : (low high : ℕ) (same : Bool) → low < 2 ^ 64 → high < 2 ^ 64 → list_all p (cond same (decimal low) (decimal low ++ 58 ∷ decimal high)) ≡ true
  range_all low high true h k = decimal_all p each low h
  range_all low high false h k = both_ends low high h k

  ranges_all : (floor : ℕ) (ranges : List UidRange) → RisesAbove floor ranges → list_all p (set_text ranges) ≡ true
  ranges_all floor [] rises = refl
  ranges_all floor (r ∷ []) rises = let o = rises.0.ordered in let f = rises.0.fits in range_all r.low r.high (r.low == r.high) (omega arith) (omega arith)
  ranges_all floor (r ∷ s ∷ ranges) rises =
      let o = rises.0.ordered in
      let f = rises.0.fits in
      all_join p (range_text r) (44 ∷ set_text (s ∷ ranges)) (range_all r.low r.high (r.low == r.high) (omega arith) (omega arith))
      (both_true (p 44) (list_all p (set_text (s ∷ ranges))) comma (ranges_all (r.high + 1) (s ∷ ranges) rises.1))

pub set_inner : (uids : List UidRange) → IsCanonical uids → list_all is_inner_byte (set_text uids) ≡ true
set_inner uids is = ranges_all is_inner_byte digit_inner refl refl 0 uids is

pub set_word : (uids : List UidRange) → IsCanonical uids → list_all is_word_byte (set_text uids) ≡ true
set_word uids is = ranges_all is_word_byte digit_word refl refl 0 uids is

pub set_quiet : (uids : List UidRange) → IsCanonical uids → list_all is_quiet_byte (set_text uids) ≡ true
set_quiet uids is = ranges_all is_quiet_byte digit_quiet refl refl 0 uids is

append_some : (a b : List ℕ) → a ≢ [] → a ++ b ≢ []
append_some [] b some e = some refl
append_some (x ∷ a) b some e = cc

range_some : (low high : ℕ) (same : Bool) → low < 2 ^ 64 → cond same (decimal low) (decimal low ++ 58 ∷ decimal high) ≢ []
range_some low high true h = decimal_some low h
range_some low high false h = append_some (decimal low) (58 ∷ decimal high) (decimal_some low h)

pub set_some : (uids : List UidRange) → IsCanonical uids → uids ≢ [] → set_text uids ≢ []
set_some [] is some = absurd (some refl)
set_some (r ∷ []) is some = let o = is.0.ordered in let f = is.0.fits in range_some r.low r.high (r.low == r.high) (omega arith)
set_some (r ∷ s ∷ uids) is some =
    let o = is.0.ordered in
    let f = is.0.fits in
    append_some (range_text r) (44 ∷ set_text (s ∷ uids)) (range_some r.low r.high (r.low == r.high) (omega arith))

-- words
atom_word : (b : ℕ) → is_atom_byte b ≡ true → is_word_byte b ≡ true
atom_word b h = grind (arith, nat_tests)

atom_inner : (b : ℕ) → is_atom_byte b ≡ true → is_inner_byte b ≡ true
atom_inner b h = grind (arith, nat_tests)

atom_quiet : (b : ℕ) → is_atom_byte b ≡ true → is_quiet_byte b ≡ true
atom_quiet b h = grind (arith, nat_tests)

pub words_stop : (words : List (List ℕ)) → Stops (words_text words)
unfolding ◌⌢◌
words_stop [] = tt
words_stop (word ∷ words) = refl

pub words_spell : (words : List (List ℕ)) → AllByRecursion IsAtomic words → AreWords (words_text words) words []
unfolding ◌⌢◌
words_spell [] all = refl
words_spell (word ∷ words) all =
    let wide = all_weaker is_atom_byte is_word_byte atom_word word all.0.1 in
    let quiet = all_weaker is_atom_byte is_quiet_byte atom_quiet word all.0.1 in (
      words_text words,
      one_space (word ++ words_text words) (word_unspaced word (words_text words) all.0.0 wide),
      is_a_word word all.0.0 wide,
      words_stop words,
      quiet_open word quiet,
      words_spell words all.1,
    )

pub words_all : (p : ℕ → Bool) → ((b : ℕ) → is_atom_byte b ≡ true → p b ≡ true) → p 32 ≡ true → (words : List (List ℕ)) →
    AllByRecursion IsAtomic words → list_all p (words_text words) ≡ true
unfolding ◌⌢◌
words_all p each space [] all = refl
words_all p each space (word ∷ words) all =
    both_true (p 32) (list_all p (word ++ words_text words)) space
    (all_join p word (words_text words) (all_weaker is_atom_byte p each word all.0.1) (words_all p each space words all.1))

pub words_inner : (words : List (List ℕ)) → AllByRecursion IsAtomic words → list_all is_inner_byte (words_text words) ≡ true
words_inner words all = words_all is_inner_byte atom_inner refl words all

pub words_quiet : (words : List (List ℕ)) → AllByRecursion IsAtomic words → list_all is_quiet_byte (words_text words) ≡ true
words_quiet words all = words_all is_quiet_byte atom_quiet refl words all
