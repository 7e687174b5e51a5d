-- The tag of a completion: what is read, and what is spelled.
use Rattle.std.proofs.Common.{◌≡◌, ◌≢◌, ℕ, ◌+◌, ◌<◌, ◌≤◌, ◌^◌, Bool, true, false, cond, List, [], ◌∷◌, ◌++◌, length, take, drop, get_or}
use Rattle.std.proofs.Common.{decimal, codes, Option, Some, None, refl, ap, sym, ◌∙◌, subst, inl, inr, ◌⊎◌, arith, append-nil}
use Rattle.std.proofs.lemmas.Bool.{cases_Bool}
use Rattle.std.proofs.lemmas.Bool.Decides.{nat_tests}
use Rattle.std.proofs.lemmas.Fmt.{decimal-digits_value, decimal_is_IsNumeral, first_decimal, decimal_digit}
use Rattle.std.proofs.lemmas.Str.Parse.{tells_digits, numerals_by_value}
use Rattle.std.specs.Prelude.{◌==◌}
use Rattle.std.specs.List.{prefix_len}
use Rattle.std.specs.Char.{is_ascii_digit}
use Rattle.std.specs.Str.{bytes_eq}
use Rattle.std.specs.Str.Parse.{AllDigits, digits_value}
use Rattle.mail_base.specs.Number.{IsNumberUpTo}
use Rattle.mail_base.specs.declared.tag.Tag.{Tag}
use Rattle.mail_base.specs.declared.tag.Tag.TheVariants.{Play, Again, Count, Strange}
use Rattle.imap_model.specs.Tagged.{is_tag_byte, IsLettered, IsTried, NamesTag}
use Rattle.imap_model.specs.Values.{is_wide_byte}
use Rattle.imap_model.specs.Words.{is_word_byte}
use Rattle.imap_model.proofs.Cutting.{Stops as Ends}
use Rattle.imap_response.specs.ReadNumbers.{number_of}
use Rattle.imap_response.specs.Tags.{tag_misfit, lettered, turn_of, again_of, try_of, play_of, count_of, tag_of}
use Rattle.imap_response.proofs.NumberLemmas.{number_some}
use Rattle.imap_response.proofs.spelling.Names.{bytes_equal}
use Rattle.imap_response.proofs.spelling.Numbers.{number_spells, digits_pass}
use Rattle.imap_response.proofs.spelling.Results.{is_byte, not_byte, byte_not, some_len, len_some, len_none}
use Rattle.imap_response.proofs.spelling.Runs.{AllPass, IsCut, cut_front, cut_behind, reading_cuts, all_weaker}

-- the bytes of a tag
misfit_none : (start at : ℕ) → tag_misfit start at [] ≡ None
unfolding tag_misfit
misfit_none start at = refl

misfit_on : (start at b : ℕ) (more : List ℕ) → is_tag_byte b ≡ true →
    tag_misfit start at (b ∷ more) ≡ tag_misfit (cond (is_wide_byte b) start (at + 1)) (at + 1) more
unfolding tag_misfit
misfit_on start at b more test = rw test refl

misfit_here : (start at b : ℕ) (more : List ℕ) → is_tag_byte b ≡ false → tag_misfit start at (b ∷ more) ≡ Some (cond (is_wide_byte b) start at)
unfolding tag_misfit
misfit_here start at b more test = rw test refl

pub tag_spells : (text : List ℕ) (start at : ℕ) → tag_misfit start at text ≡ None → AllPass is_tag_byte text
tag_spells [] start at is = tt
tag_spells (b ∷ more) start at is = elim (cases_Bool (is_tag_byte b)) [
  | inl passes ↦ (passes, tag_spells more (cond (is_wide_byte b) start (at + 1)) (at + 1) (sym (misfit_on start at b more passes) ∙ is))
  | inr fails ↦ absurd (let no : ◌≡◌ {A = Option ℕ} (Some (cond (is_wide_byte b) start at)) None = sym (misfit_here start at b more fails) ∙ is in cc)
]

pub tag_reads : (text : List ℕ) (start at : ℕ) → AllPass is_tag_byte text → tag_misfit start at text ≡ None
tag_reads [] start at all = misfit_none start at
tag_reads (b ∷ more) start at all = misfit_on start at b more all.0 ∙ tag_reads more (cond (is_wide_byte b) start (at + 1)) (at + 1) all.1

tag_word_byte : (b : ℕ) → is_tag_byte b ≡ true → is_word_byte b ≡ true
tag_word_byte b is = grind (arith, nat_tests)

pub tag_word : (text : List ℕ) → AllPass is_tag_byte text → AllPass is_word_byte text
tag_word text all = all_weaker is_tag_byte is_word_byte tag_word_byte text all

-- the number of a tag
abbrev IsCounted : ℕ → List ℕ → Type 0
IsCounted n digits = (0 < n) × (n ≤ 4294967295) × (digits ≡ decimal n)

value_some : (first : ℕ) (digits : List ℕ) (n : ℕ) → AllDigits 10 (first ∷ digits) → digits_value 10 (first ∷ digits) ≡ n →
    n ≤ 4294967295 → first ≢ 48 → first ∷ digits ≡ decimal n
value_some first digits n all value fits other =
    let small : digits_value 10 (first ∷ digits) < 2 ^ 64 = omega (arith, value) in
    let written : decimal (digits_value 10 (first ∷ digits)) ≡ first ∷ digits =
    decimal-digits_value (numerals_by_value _ tells_digits) (first ∷ digits) all (omega arith) (λ e. absurd (other e)) small in
    sym written ∙ ap decimal value

not_zero : (first : ℕ) (digits : List ℕ) (n : ℕ) → first ∷ digits ≡ decimal n → first ≢ 48 → n ≢ 0
not_zero first digits n is other none =
    let one : first ∷ digits ≡ 48 ∷ [] = is ∙ ap decimal none ∙ decimal_digit 0 (omega arith) in
    other cc

lettered_from : (first : ℕ) (digits : List ℕ) (n : ℕ) → number_of 4294967295 (first ∷ digits) ≡ Some n → first ≢ 48 → IsCounted n (first ∷ digits)
lettered_from first digits n is other =
    let number = number_spells 4294967295 n (first ∷ digits) is in
    let written = value_some first digits n number.digits.1 number.value number.fits other in
    let some = not_zero first digits n written other in
    (omega (arith, some), number.fits, written)

lettered_test : (first : ℕ) (digits : List ℕ) (n : ℕ) (t : Bool) → (first == 48) ≡ t →
    cond t None (number_of 4294967295 (first ∷ digits)) ≡ Some n → IsCounted n (first ∷ digits)
lettered_test first digits n true test is = absurd cc
lettered_test first digits n false test is = lettered_from first digits n is (not_byte first 48 test)

lettered_spells : (text : List ℕ) (n : ℕ) → lettered text ≡ Some n → IsCounted n text
lettered_spells [] n is = absurd cc
lettered_spells (first ∷ digits) n is = lettered_test first digits n (first == 48) refl is

lettered_reads : (text : List ℕ) (n : ℕ) → IsCounted n text → lettered text ≡ Some n
lettered_reads [] n is =
    let some : 0 < get_or (decimal n) 0 0 = omega (arith, first_decimal n is.0 (omega (arith, is.1))) in
    let none : get_or (decimal n) 0 0 ≡ 0 = ap (λ (ds : List ℕ). get_or ds 0 0) (sym is.2) in
    absurd (omega arith)
lettered_reads (first ∷ digits) n is =
    let fits : n < 2 ^ 64 = omega (arith, is.1) in
    let above = first_decimal n is.0 fits in
    let here : first ≡ get_or (decimal n) 0 0 = ap (λ (ds : List ℕ). get_or ds 0 0) is.2 in
    let other : (first == 48) ≡ false = byte_not first 48 (λ e. omega (arith, e, here, above)) in
    let numeral = decimal_is_IsNumeral n fits in
    let number : IsNumberUpTo 4294967295 (decimal n) n = record { digits = numeral.0; value = numeral.1; fits = is.1 } in
    rw other (ap (number_of 4294967295) is.2 ∙ number_some 4294967295 n (decimal n) number)

-- what a tag stands for
lettered_as : (letter n : ℕ) (digits : List ℕ) → lettered digits ≡ Some n → IsLettered letter n (letter ∷ digits)
lettered_as letter n digits is =
    let counted = lettered_spells digits n is in
    record { nonzero = counted.0; fits = counted.1; whole = ap (λ (t : List ℕ). letter ∷ t) counted.2 }

lettered_back : (letter n first : ℕ) (digits : List ℕ) → IsLettered letter n (first ∷ digits) → (first ≡ letter) × (lettered digits ≡ Some n)
lettered_back letter n first digits is =
    let whole = is.whole in
    let here : first ≡ letter = cc in
    let there : digits ≡ decimal n = cc in
    (here, lettered_reads digits n (is.nonzero, is.fits, there))

no_letter : (letter n first : ℕ) (digits : List ℕ) → first ≢ letter → IsLettered letter n (first ∷ digits) → ⊥
no_letter letter n first digits other is = other (lettered_back letter n first digits is).0

no_number : (letter n first : ℕ) (digits : List ℕ) → lettered digits ≡ None → IsLettered letter n (first ∷ digits) → ⊥
no_number letter n first digits none is =
    let some = (lettered_back letter n first digits is).1 in cc

no_try : (letter n turn first : ℕ) (text : List ℕ) → first ≢ letter → IsTried letter n turn (first ∷ text) → ⊥
no_try letter n turn first text other is = let whole = is.whole in other cc

no_bytes : (letter n : ℕ) → IsLettered letter n [] → ⊥
no_bytes letter n is = let whole = is.whole in cc

no_try_bytes : (letter n turn : ℕ) → IsTried letter n turn [] → ⊥
no_try_bytes letter n turn is = let whole = is.whole in cc

-- a number, cut off where its digits end
abbrev front_of : List ℕ → List ℕ
front_of text = take (prefix_len is_ascii_digit text) text

abbrev behind_of : List ℕ → List ℕ
behind_of text = drop (prefix_len is_ascii_digit text) text

cut_number : (n : ℕ) (text rest : List ℕ) → 0 < n → n ≤ 4294967295 → Ends is_ascii_digit rest → text ≡ decimal n ++ rest →
    (lettered (front_of text) ≡ Some n) × (behind_of text ≡ rest)
cut_number n text rest some fits ends whole =
    let numeral = decimal_is_IsNumeral n (omega (arith, fits)) in
    let cut : IsCut is_ascii_digit text (decimal n) rest = record { all = digits_pass (decimal n) numeral.0.1; ends = ends; whole = whole } in (
      ap lettered (cut_front is_ascii_digit text (decimal n) rest cut) ∙ lettered_reads (decimal n) n (some, fits, refl),
      cut_behind is_ascii_digit text (decimal n) rest cut,
    )

-- the turn of a later try
two_or_three : (turn : ℕ) → 2 ≤ turn → turn ≤ 3 → (turn ≡ 2) ⊎ (turn ≡ 3)
two_or_three turn above below = elim (cases_Bool (turn == 2)) [
  | inl two ↦ inl (is_byte turn 2 two)
  | inr other ↦ inr (let no = not_byte turn 2 other in omega (arith, no, above, below))
]

turn_reads : (turn : ℕ) → 2 ≤ turn → turn ≤ 3 → turn_of (82 ∷ decimal turn) ≡ Some turn
turn_reads turn above below = elim (two_or_three turn above below) [
  | inl two ↦ subst (λ (t : ℕ). turn_of (82 ∷ decimal t) ≡ Some t) (sym two) (ap (λ (d : List ℕ). turn_of (82 ∷ d)) (decimal_digit 2 (omega arith)))
  | inr three ↦ subst (λ (t : ℕ). turn_of (82 ∷ decimal t) ≡ Some t) (sym three) (ap (λ (d : List ℕ). turn_of (82 ∷ d)) (decimal_digit 3 (omega arith)))
]

record IsTurn (turn : ℕ) (text : List ℕ) : Type 0 where
  pub second : 2 ≤ turn
  pub third : turn ≤ 3
  pub whole : text ≡ 82 ∷ decimal turn

turn_two : IsTurn 2 (codes "R2")
turn_two = record { second = omega arith; third = omega arith; whole = ap (λ (d : List ℕ). 82 ∷ d) (sym (decimal_digit 2 (omega arith))) }

turn_three : IsTurn 3 (codes "R3")
turn_three = record { second = omega arith; third = omega arith; whole = ap (λ (d : List ℕ). 82 ∷ d) (sym (decimal_digit 3 (omega arith))) }

some_is : (one other : ℕ) → ◌≡◌ {A = Option ℕ} (Some one) (Some other) → one ≡ other
some_is one other is = cc

turn_from : (text : List ℕ) (turn : ℕ) (two three : Bool) → bytes_eq text (codes "R2") ≡ two → bytes_eq text (codes "R3") ≡ three →
    cond two (Some 2) (cond three (Some 3) None) ≡ Some turn → IsTurn turn text
turn_from text turn true three two_is three_is is =
    subst (λ (t : ℕ). IsTurn t text) (some_is 2 turn is) (subst (IsTurn 2) (sym (bytes_equal text (codes "R2") two_is)) turn_two)
turn_from text turn false true two_is three_is is =
    subst (λ (t : ℕ). IsTurn t text) (some_is 3 turn is) (subst (IsTurn 3) (sym (bytes_equal text (codes "R3") three_is)) turn_three)
turn_from text turn false false two_is three_is is = absurd cc

turn_spells : (text : List ℕ) (turn : ℕ) → turn_of text ≡ Some turn → IsTurn turn text
turn_spells text turn is = turn_from text turn (bytes_eq text (codes "R2")) (bytes_eq text (codes "R3")) refl refl is

-- a tag of a try, by what stands behind its letter
tried_back : (n turn first : ℕ) (text : List ℕ) → IsTried 80 n turn (first ∷ text) →
    (lettered (front_of text) ≡ Some n) × (behind_of text ≡ 82 ∷ decimal turn)
tried_back n turn first text is =
    let whole = is.whole in
    let there : text ≡ decimal n ++ 82 ∷ decimal turn = cc in
    cut_number n text (82 ∷ decimal turn) is.nonzero is.fits refl there

played_back : (n first : ℕ) (text : List ℕ) → IsLettered 80 n (first ∷ text) → (lettered (front_of text) ≡ Some n) × (behind_of text ≡ [])
played_back n first text is =
    let whole = is.whole in
    let there : text ≡ decimal n = cc in
    cut_number n text [] is.nonzero is.fits tt (there ∙ sym (append-nil (decimal n)))

some_turn : (turn : ℕ) → 82 ∷ decimal turn ≢ []
some_turn turn is = cc

-- no tag of an action's stands here
no_play : (first : ℕ) (text : List ℕ) → first ≡ 80 → ((n : ℕ) → lettered (front_of text) ≡ Some n → behind_of text ≡ [] → ⊥)
    → ((n turn : ℕ) → lettered (front_of text) ≡ Some n → behind_of text ≡ 82 ∷ decimal turn → 2 ≤ turn → turn ≤ 3 → ⊥)
    → NamesTag (first ∷ text) Strange
no_play first text here none no_turn = λ n. (
  λ is. (let back = played_back n first text is in none n back.0 back.1),
  no_letter 67 n first text (λ e. omega (arith, e, here)),
  λ turn is. (let back = tried_back n turn first text is in no_turn n turn back.0 back.1 is.second is.third),
)

again_named : (first n : ℕ) (text : List ℕ) (o : Option ℕ) → first ≡ 80 → lettered (front_of text) ≡ Some n → behind_of text ≢ [] →
    turn_of (behind_of text) ≡ o → NamesTag (first ∷ text) (again_of n o)
again_named first n text None here some more none =
    no_play first text here (λ m is no_more. more no_more)
    (λ m turn is behind above below. (let there = ap turn_of (sym behind) ∙ none in let read = turn_reads turn above below in cc))
again_named first n text (Some turn) here some more is =
    let counted = lettered_spells (front_of text) n some in
    let last = turn_spells (behind_of text) turn is in
    let cut = reading_cuts is_ascii_digit text in
    let whole : text ≡ decimal n ++ 82 ∷ decimal turn =
    cut.whole ∙ ap (λ (d : List ℕ). d ++ behind_of text) counted.2 ∙ ap (λ (t : List ℕ). decimal n ++ t) last.whole in
    subst (λ (b : ℕ). NamesTag (b ∷ text) (Again n turn)) (sym here) (record {
      nonzero = counted.0;
      fits = counted.1;
      second = last.second;
      third = last.third;
      whole = ap (λ (t : List ℕ). 80 ∷ t) whole;
    })

try_named : (first n : ℕ) (text : List ℕ) (t : Bool) → first ≡ 80 → lettered (front_of text) ≡ Some n → (length (behind_of text) == 0) ≡ t →
    NamesTag (first ∷ text) (cond t (Play n) (again_of n (turn_of (behind_of text))))
try_named first n text true here some none =
    let cut = reading_cuts is_ascii_digit text in
    let whole : text ≡ front_of text =
    cut.whole ∙ ap (λ (r : List ℕ). front_of text ++ r) (len_none (behind_of text) none) ∙ append-nil (front_of text) in
    subst (λ (b : ℕ). NamesTag (b ∷ text) (Play n)) (sym here) (lettered_as 80 n text (ap lettered whole ∙ some))
try_named first n text false here some more =
    again_named first n text (turn_of (behind_of text)) here some (len_some (behind_of text) more) refl

play_named : (first : ℕ) (text : List ℕ) (o : Option ℕ) → first ≡ 80 → lettered (front_of text) ≡ o →
    NamesTag (first ∷ text) (try_of o (behind_of text))
play_named first text None here is =
    no_play first text here (λ n some none. cc) (λ n turn some behind above below. cc)
play_named first text (Some n) here is = try_named first n text (length (behind_of text) == 0) here is refl

count_named : (first : ℕ) (digits : List ℕ) (o : Option ℕ) → first ≡ 67 → lettered digits ≡ o → NamesTag (first ∷ digits) (count_of o)
count_named first digits None here is = λ n. (
  no_letter 80 n first digits (λ e. omega (arith, e, here)),
  no_number 67 n first digits is,
  λ turn. no_try 80 n turn first digits (λ e. omega (arith, e, here)),
)
count_named first digits (Some n) here is = subst (λ (b : ℕ). NamesTag (b ∷ digits) (Count n)) (sym here) (lettered_as 67 n digits is)

other_named : (first : ℕ) (digits : List ℕ) → first ≢ 80 → first ≢ 67 → NamesTag (first ∷ digits) Strange
other_named first digits other other' = λ n. (
  no_letter 80 n first digits other,
  no_letter 67 n first digits other',
  λ turn. no_try 80 n turn first digits other,
)

count_from : (first : ℕ) (digits : List ℕ) (u : Bool) → (first == 67) ≡ u → first ≢ 80 → NamesTag (first ∷ digits) (cond u (count_of (lettered digits)) Strange)
count_from first digits true is other = count_named first digits (lettered digits) (is_byte first 67 is) refl
count_from first digits false is other = other_named first digits other (not_byte first 67 is)

tag_from : (first : ℕ) (text : List ℕ) (t : Bool) → (first == 80) ≡ t →
    NamesTag (first ∷ text) (cond t (play_of text) (cond (first == 67) (count_of (lettered text)) Strange))
tag_from first text true is = play_named first text (lettered (front_of text)) (is_byte first 80 is) refl
tag_from first text false is = count_from first text (first == 67) refl (not_byte first 80 is)

pub tag_of_spells : (text : List ℕ) → NamesTag text (tag_of text)
tag_of_spells [] = λ n. (no_bytes 80 n, no_bytes 67 n, λ turn. no_try_bytes 80 n turn)
tag_of_spells (first ∷ text) = tag_from first text (first == 80) refl

try_is : (text : List ℕ) (o : Option ℕ) (rest : List ℕ) → lettered (front_of text) ≡ o → behind_of text ≡ rest → play_of text ≡ try_of o rest
try_is text o rest number behind = ap (λ (k : Option ℕ). try_of k (behind_of text)) number ∙ ap (try_of o) behind

play_read : (n : ℕ) (text : List ℕ) → IsLettered 80 n text → tag_of text ≡ Play n
play_read n text is =
    let cut = cut_number n (decimal n) [] is.nonzero is.fits tt (sym (append-nil (decimal n))) in
    ap tag_of is.whole ∙ try_is (decimal n) (Some n) [] cut.0 cut.1

again_is : (n turn : ℕ) → 2 ≤ turn → turn ≤ 3 → try_of (Some n) (82 ∷ decimal turn) ≡ Again n turn
again_is n turn above below =
    rw (some_len (82 ∷ decimal turn) (some_turn turn)) (ap (again_of n) (turn_reads turn above below))

again_read : (n turn : ℕ) (text : List ℕ) → IsTried 80 n turn text → tag_of text ≡ Again n turn
again_read n turn text is =
    let cut = cut_number n (decimal n ++ 82 ∷ decimal turn) (82 ∷ decimal turn) is.nonzero is.fits refl refl in
    ap tag_of is.whole ∙ try_is (decimal n ++ 82 ∷ decimal turn) (Some n) (82 ∷ decimal turn) cut.0 cut.1 ∙ again_is n turn is.second is.third

count_read : (n : ℕ) (text : List ℕ) → IsLettered 67 n text → tag_of text ≡ Count n
count_read n text is =
    ap tag_of is.whole ∙ ap count_of (lettered_reads (decimal n) n (is.nonzero, is.fits, refl))

strange_from : (text : List ℕ) (tag : Tag) → NamesTag text tag → NamesTag text Strange → tag ≡ Strange
strange_from text (Play n) named strange = absurd ((strange n).0 named)
strange_from text (Again n turn) named strange = absurd ((strange n).2 turn named)
strange_from text (Count n) named strange = absurd ((strange n).1 named)
strange_from text Strange named strange = refl

pub tag_of_reads : (text : List ℕ) (tag : Tag) → NamesTag text tag → tag_of text ≡ tag
tag_of_reads text (Play n) named = play_read n text named
tag_of_reads text (Again n turn) named = again_read n turn text named
tag_of_reads text (Count n) named = count_read n text named
tag_of_reads text Strange named = strange_from text (tag_of text) (tag_of_spells text) named
