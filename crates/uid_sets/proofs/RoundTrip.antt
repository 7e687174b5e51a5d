-- The text of a set is read as the set.
use Rattle.std.proofs.Common.{◌≡◌, ℕ, ◌+◌, ◌<◌, ◌≤◌, ◌^◌, Bool, true, false, not, cond, nat_lt, ◌==◌, min, max, List, [], ◌∷◌, ◌++◌}
use Rattle.std.proofs.Common.{length, take, drop, map, decimal, Result, Ok, refl, arith, ap, sym, ◌∙◌, append_assoc}
use Rattle.std.specs.Char.{is_ascii_digit}
use Rattle.std.specs.Int.{IsInRange}
use Rattle.std.specs.List.{All, position_or_len, before_first, after_first, slice_split}
use Rattle.std.specs.Str.Parse.{AllDigits, digits_value}
use Rattle.std.proofs.lemmas.Bool.Decides.{nat_tests}
use Rattle.std.proofs.lemmas.Fmt.{decimal_is_IsNumeral, decimal_nonempty}
use Rattle.std.proofs.lemmas.Str.Parse.{digit_at}
use Rattle.std.proofs.lemmas.List.{take_all, take_at, drop_at, length-append, get_or_append_left}
use Rattle.std.proofs.Math.Seq.{get_or-append_seam}
use Rattle.std.proofs.lemmas.List.Elements.{All-from_get_or, All-append, All-cons}
use Rattle.std.proofs.lemmas.List.Splits.{slice_split_none, slice_split_at}
use Rattle.std.proofs.lemmas.List.Sums.{prefix_len_is}
use Rattle.uid_sets.specs.UidSet.{IsCanonical, RisesAbove, IsRange}
use Rattle.uid_sets.specs.SequenceSet.{◌>>=◌, number, item, items, is_colon, is_comma, digit_count, spelt, Spells}
use Rattle.uid_sets.specs.Spelling.{range_text, set_text}
use Rattle.uid_sets.specs.declared.uid.UidRange.{UidRange}
use Rattle.uid_sets.specs.declared.set_fault.SetFault.{SetFault}
use Rattle.uid_sets.proofs.Ranges.{same_range}
use Rattle.uid_sets.proofs.Items.{items_of_some}

digit_is : (c : ℕ) → IsInRange 48 57 c → is_ascii_digit c ≡ true
digit_is c within = grind (arith, nat_tests)

-- all of a numeral is digits
all_digits : (text : List ℕ) → AllDigits 10 text → digit_count text ≡ length text
all_digits text digits =
    prefix_len_is is_ascii_digit text (length text) 0 (omega arith) (λ k within. digit_is _ (digit_at text k digits within)) (λ within. absurd (omega arith))

number_reads : (at : ℕ) (text : List ℕ) (n : ℕ) → digit_count text ≡ length text → spelt text ≡ n → 0 < length text → 0 < n → n < 2 ^ 32 → number at text ≡ Ok n
unfolding number
number_reads at text n count value some above below = grind (arith, nat_tests)

pub number_decimal : (at n : ℕ) → 0 < n → n < 2 ^ 32 → number at (decimal n) ≡ Ok n
number_decimal at n above below =
    let numeral = decimal_is_IsNumeral n (omega arith) in
    let count = all_digits (decimal n) numeral.0.1 in
    let whole = ap (λ k. digits_value 10 (take k (decimal n))) count
    ∙ ap (λ xs. digits_value 10 xs) (take_all (length (decimal n)) (decimal n) (omega arith)) ∙ numeral.1 in
    number_reads at (decimal n) n count whole (decimal_nonempty n (omega arith)) above below

digit_no_colon : (c : ℕ) → IsInRange 48 57 c → not (is_colon c) ≡ true
digit_no_colon c within = grind (arith, nat_tests)

digit_no_comma : (c : ℕ) → IsInRange 48 57 c → is_comma c ≡ false
digit_no_comma c within = grind (arith, nat_tests)

-- a numeral holds no colon
no_colon : (text : List ℕ) → AllDigits 10 text → position_or_len is_colon text ≡ length text
no_colon text digits =
    prefix_len_is (λ x. not (is_colon x)) text (length text) 0 (omega arith) (λ k within. digit_no_colon _ (digit_at text k digits within))
    (λ within. absurd (omega arith))

-- behind a numeral the first colon is the next
next_colon : (text rest : List ℕ) → AllDigits 10 text → position_or_len is_colon (text ++ 58 ∷ rest) ≡ length text
next_colon text rest digits =
    prefix_len_is (λ x. not (is_colon x)) (text ++ 58 ∷ rest) (length text) 0
    (let len = length-append text (58 ∷ rest) in omega arith)
    (λ k within. rw (get_or_append_left text (58 ∷ rest) 0 k within) (digit_no_colon _ (digit_at text k digits within)))
    (λ within. rw (get_or-append_seam text 58 rest 0) refl)

cond_true : {A : Type 0} (b : Bool) (x y : A) → b ≡ true → cond b x y ≡ x
cond_true true x y is = refl
cond_true false x y is = absurd cc

cond_false : {A : Type 0} (b : Bool) (x y : A) → b ≡ false → cond b x y ≡ y
cond_false false x y is = refl
cond_false true x y is = absurd cc

lt_true : (m n : ℕ) → m < n → nat_lt m n ≡ true
lt_true m n below = grind (arith, nat_tests)

lt_false : (m n : ℕ) → n ≤ m → nat_lt m n ≡ false
lt_false m n above = grind (arith, nat_tests)

bind_same : {A B : Type 0} (read : Result A SetFault) (f : A → Result B SetFault) (x : A) → read ≡ Ok x → (read >>= f) ≡ f x
bind_same read f x is = rw is refl

item_one : (at : ℕ) (text : List ℕ) (n : ℕ) → position_or_len is_colon text ≡ length text → number at text ≡ Ok n →
    item at text ≡ Ok (record { low = n; high = n })
unfolding item
item_one at text n place is =
    cond_false (nat_lt (position_or_len is_colon text) (length text)) _ _ (lt_false _ _ (omega arith))
    ∙ bind_same (number at text) (λ only. Ok (record { low = only; high = only })) n is

item_two : (at : ℕ) (text : List ℕ) (m n : ℕ) → position_or_len is_colon text < length text →
    number at (before_first is_colon text) ≡ Ok m → number (at + position_or_len is_colon text + 1) (after_first is_colon text) ≡ Ok n →
    item at text ≡ Ok (record { low = min m n; high = max m n })
unfolding item
item_two at text m n place first second =
    cond_true (nat_lt (position_or_len is_colon text) (length text)) _ _ (lt_true _ _ place)
    ∙ bind_same (number at (before_first is_colon text)) (λ first. number (at + position_or_len is_colon text + 1)
    (after_first is_colon text) >>= λ second. Ok (record { low = min first second; high = max first second })) m first
    ∙ bind_same (number (at + position_or_len is_colon text + 1) (after_first is_colon text))
    (λ second. Ok (record { low = min m second; high = max m second })) n second

drop_past : (text : List ℕ) (mark : ℕ) (rest : List ℕ) → drop (length text + 1) (text ++ mark ∷ rest) ≡ rest
drop_past text mark rest =
    ap (drop (length text + 1)) (sym (append_assoc text (mark ∷ []) rest)) ∙ drop_at (text ++ mark ∷ []) rest (length text + 1) (length-append text (mark ∷ []))

item_pair : (at : ℕ) (low high : ℕ) → 0 < low → low ≤ high → high < 2 ^ 32 →
    item at (decimal low ++ 58 ∷ decimal high) ≡ Ok (record { low = min low high; high = max low high })
item_pair at low high above ordered below =
    let numeral = decimal_is_IsNumeral low (omega arith) in
    let text = decimal low ++ 58 ∷ decimal high in
    let place = next_colon (decimal low) (decimal high) numeral.0.1 in
    let len = length-append (decimal low) (58 ∷ decimal high) in
    let before : before_first is_colon text ≡ decimal low = ap (λ k. take k text) place ∙ take_at (decimal low) (58 ∷ decimal high) _ refl in
    let behind : after_first is_colon text ≡ decimal high = ap (λ k. drop (k + 1) text) place ∙ drop_past (decimal low) 58 (decimal high) in
    item_two at text low high (omega arith)
    (ap (number at) before ∙ number_decimal at low above (omega arith))
    (ap (number (at + position_or_len is_colon text + 1)) behind ∙ number_decimal _ high (omega arith) below)

range_ends : (b : Bool) (at : ℕ) (range : UidRange) → IsRange 0 range → (range.low == range.high) ≡ b →
    item at (cond b (decimal range.low) (decimal range.low ++ 58 ∷ decimal range.high)) ≡ Ok range
range_ends true at range fits same =
    let one : range.low ≡ range.high = grind (arith, nat_tests) in
    let numeral = decimal_is_IsNumeral range.low (omega (arith, fits)) in
    item_one at (decimal range.low) range.low (no_colon _ numeral.0.1) (number_decimal at range.low fits.above (omega (arith, fits)))
    ∙ ap Ok (same_range (record { low = range.low; high = range.low }) range refl one)
range_ends false at range fits same =
    item_pair at range.low range.high fits.above fits.ordered fits.fits
    ∙ ap Ok (same_range (record { low = min range.low range.high; high = max range.low range.high }) range (omega (arith, fits)) (omega (arith, fits)))

-- the text of a range is read as the range
pub item_range : (at : ℕ) (range : UidRange) → IsRange 0 range → item at (range_text range) ≡ Ok range
item_range at range fits = range_ends (range.low == range.high) at range fits refl

abbrev NoComma : ℕ → Type 0
NoComma byte = is_comma byte ≡ false

numeral_no_comma : (n : ℕ) → n < 2 ^ 32 → All NoComma (decimal n)
numeral_no_comma n below =
    let numeral = decimal_is_IsNumeral n (omega arith) in
    All-from_get_or NoComma (decimal n) 0 (λ i within. digit_no_comma _ (digit_at (decimal n) i numeral.0.1 within))

either_no_comma : (b : Bool) (low high : ℕ) → low < 2 ^ 32 → high < 2 ^ 32 → All NoComma (cond b (decimal low) (decimal low ++ 58 ∷ decimal high))
either_no_comma true low high fits_low fits_high = numeral_no_comma low fits_low
either_no_comma false low high fits_low fits_high =
    All-append NoComma (decimal low) (58 ∷ decimal high) (numeral_no_comma low fits_low)
    (All-cons NoComma 58 (decimal high) refl (numeral_no_comma high fits_high))

range_no_comma : (range : UidRange) → IsRange 0 range → All NoComma (range_text range)
range_no_comma range fits = either_no_comma (range.low == range.high) range.low range.high (omega (arith, fits)) fits.fits

weaker : (floor : ℕ) (range : UidRange) → IsRange floor range → IsRange 0 range
weaker floor range fits = record { above = omega (arith, fits); ordered = fits.ordered; fits = fits.fits }

split_set : (floor : ℕ) (ranges : List UidRange) → RisesAbove floor ranges → 0 < length ranges → slice_split is_comma (set_text ranges) ≡ map range_text ranges
split_set floor [] rises some = absurd (omega arith)
split_set floor (range ∷ []) rises some = slice_split_none is_comma (range_text range) (range_no_comma range (weaker floor range rises.0))
split_set floor (range ∷ next ∷ ranges) rises some =
    slice_split_at is_comma (range_text range) 44 (set_text (next ∷ ranges)) (range_no_comma range (weaker floor range rises.0)) refl
    ∙ ap (λ texts. range_text range ∷ texts) (split_set (range.high + 1) (next ∷ ranges) rises.1 (omega arith))

items_set : (floor : ℕ) (ranges : List UidRange) (at : ℕ) → RisesAbove floor ranges → items at (map range_text ranges) ≡ Ok ranges
unfolding items
items_set floor [] at rises = refl
items_set floor (range ∷ ranges) at rises =
    rw (item_range at range (weaker floor range rises.0), items_set (range.high + 1) ranges (at + (length (range_text range) + 1)) rises.1) refl

some_text : (b : Bool) (n : ℕ) (rest : List ℕ) → n < 2 ^ 32 → 0 < length (cond b (decimal n) (decimal n ++ rest))
some_text true n rest below = decimal_nonempty n (omega arith)
some_text false n rest below =
    let len = length-append (decimal n) rest in
    let some = decimal_nonempty n (omega arith) in omega arith

range_some : (range : UidRange) → IsRange 0 range → 0 < length (range_text range)
range_some range fits = some_text (range.low == range.high) range.low (58 ∷ decimal range.high) (omega (arith, fits))

length_set : (floor : ℕ) (ranges : List UidRange) → RisesAbove floor ranges → 0 < length ranges → 0 < length (set_text ranges)
length_set floor [] rises some = absurd (omega arith)
length_set floor (range ∷ []) rises some = range_some range (weaker floor range rises.0)
length_set floor (range ∷ next ∷ ranges) rises some =
    let len = length-append (range_text range) (44 ∷ set_text (next ∷ ranges)) in omega arith

-- the text of a set that is not empty spells it
pub set_spells : (ranges : List UidRange) → IsCanonical ranges → 0 < length ranges → Spells (set_text ranges) ranges
set_spells ranges canonical some = record {
  written = ranges;
  read = items_of_some (set_text ranges) (length_set 0 ranges canonical some)
      ∙ (ap (items 0) (split_set 0 ranges canonical some) ∙ items_set 0 ranges 0 canonical);
  canonical = canonical;
  members = λ uid. (λ member. member, λ member. member);
}

pub some_of : (ranges : List UidRange) → ¬ (ranges ≡ []) → 0 < length ranges
some_of [] some = absurd (some refl)
some_of (range ∷ ranges) some = omega arith
