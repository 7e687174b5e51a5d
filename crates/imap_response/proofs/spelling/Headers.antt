-- A text that ends with a literal's header: what is read, and what is spelled.
use Rattle.std.proofs.Common.{◌≡◌, ℕ, ◌+◌, ◌<◌, Bool, true, false, List, [], ◌∷◌, ◌++◌, length, take, drop, Option, Some, None, refl, ap}
use Rattle.std.proofs.Common.{sym, ◌∙◌, inl, inr, arith, nat_lt, Ok, length-append}
use Rattle.std.proofs.Math.Seq.{drop-append_seam}
use Rattle.std.proofs.lemmas.Bool.{cases_Bool, and_parts}
use Rattle.std.proofs.lemmas.Bool.Decides.{nat_tests}
use Rattle.std.proofs.lemmas.List.{take-append-drop, length-drop}
use Rattle.std.proofs.lemmas.List.Folds.{length-prefix_len}
use Rattle.std.specs.Prelude.{◌&&◌, ◌==◌, nat_eq}
use Rattle.std.specs.List.{prefix_len, starts_with}
use Rattle.std.specs.Char.{is_ascii_digit}
use Rattle.std.specs.Str.Parse.{IsNumeral}
use Rattle.mail_base.specs.Frames.{header}
use Rattle.mail_base.proofs.Headers.{one_header}
use Rattle.imap_model.specs.Parts.{EndsInHeader}
use Rattle.imap_response.specs.WordLists.{is_header_rest, header_start, no_header}
use Rattle.imap_response.proofs.NumberLemmas.{digits_front}
use Rattle.imap_response.proofs.spelling.Numbers.{digits_pass}
use Rattle.imap_response.proofs.spelling.Results.{is_byte, byte_is}
use Rattle.imap_response.proofs.spelling.Runs.{cut_len}

-- digits and `}`
abbrev IsTail : List ℕ → Type 0
IsTail text = (digits : List ℕ) × IsNumeral 10 digits × (text ≡ digits ++ 125 ∷ [])

one_byte : (text : List ℕ) → length text ≡ 1 → starts_with nat_eq text (125 ∷ []) ≡ true → text ≡ 125 ∷ []
one_byte [] len test = absurd (omega arith)
one_byte (b ∷ []) len test = let is : b ≡ 125 = grind (arith, nat_tests) in cc
one_byte (b ∷ c ∷ text) len test = absurd (omega arith)

tests_split : (x y z : Bool) → (x && y && z) ≡ true → (x ≡ true) × (y ≡ true) × (z ≡ true)
tests_split x y z is =
    let outer = and_parts (x && y) z is in
    let inner = and_parts x y outer.0 in
    (inner.0, inner.1, outer.1)

tail_from : (text : List ℕ) (n : ℕ) → prefix_len is_ascii_digit text ≡ n → nat_lt 0 n ≡ true → (length text == n + 1) ≡ true →
    starts_with nat_eq (drop n text) (125 ∷ []) ≡ true → IsTail text
tail_from text n is some whole ends =
    let len : length text ≡ n + 1 = is_byte (length text) (n + 1) whole in
    let rest : length (drop n text) ≡ 1 = simp length-drop (omega arith) in
    let last = one_byte (drop n text) rest ends in
    let size : length (take (prefix_len is_ascii_digit text) text) ≡ n = length-prefix_len is_ascii_digit text ∙ is in
    let front : take (prefix_len is_ascii_digit text) text ≡ take n text = ap (λ (k : ℕ). take k text) is in
    let some' : 0 < n = grind (arith, nat_tests) in (
      take (prefix_len is_ascii_digit text) text,
      (omega arith, digits_front text),
      sym (take-append-drop n text) ∙ ap (λ (r : List ℕ). take n text ++ r) last ∙ ap (λ (r : List ℕ). r ++ 125 ∷ []) (sym front),
    )

tail_spells : (text : List ℕ) → is_header_rest text ≡ true → IsTail text
tail_spells text test =
    let all = tests_split (nat_lt 0 (prefix_len is_ascii_digit text)) (length text == prefix_len is_ascii_digit text + 1)
    (starts_with nat_eq (drop (prefix_len is_ascii_digit text) text) (125 ∷ [])) test in
    tail_from text (prefix_len is_ascii_digit text) refl all.0 all.1 all.2

tail_test : (text : List ℕ) (n : ℕ) → prefix_len is_ascii_digit text ≡ n →
    (nat_lt 0 n && length text == n + 1 && starts_with nat_eq (drop n text) (125 ∷ [])) ≡ true → is_header_rest text ≡ true
tail_test text n is test = rw is test

three_true : (x y z : Bool) → x ≡ true → y ≡ true → z ≡ true → (x && y && z) ≡ true
three_true x y z a b c = rw (a, b, c) refl

some_first : (text : List ℕ) → 0 < length text → nat_lt 0 (length text) ≡ true
some_first text some = grind (arith, nat_tests)

tail_reads : (text : List ℕ) → IsTail text → is_header_rest text ≡ true
tail_reads text tail =
    let digits : List ℕ = tail.0 in
    let n : prefix_len is_ascii_digit text ≡ length tail.0 = ap (prefix_len is_ascii_digit) tail.2
    ∙ cut_len is_ascii_digit tail.0 (125 ∷ []) (digits_pass tail.0 tail.1.1) refl in
    let len : length text ≡ length tail.0 + 1 = ap length tail.2 ∙ length-append tail.0 (125 ∷ []) in
    let rest : drop (length tail.0) text ≡ 125 ∷ [] = ap (drop (length tail.0)) tail.2 ∙ drop-append_seam tail.0 (125 ∷ []) in
    tail_test text (length tail.0) n (three_true (nat_lt 0 (length tail.0)) (length text == length tail.0 + 1)
    (starts_with nat_eq (drop (length tail.0) text) (125 ∷ []))
    (some_first tail.0 tail.1.0) (byte_is (length text) (length tail.0 + 1) len) (ap (λ (r : List ℕ). starts_with nat_eq r (125 ∷ [])) rest))

-- one byte more
step_here : (at b : ℕ) (more : List ℕ) → (b == 123 && is_header_rest more) ≡ true → header_start at (b ∷ more) ≡ Some at
unfolding header_start
step_here at b more test = rw test refl

step_on : (at b : ℕ) (more : List ℕ) → (b == 123 && is_header_rest more) ≡ false → header_start at (b ∷ more) ≡ header_start (at + 1) more
unfolding header_start
step_on at b more test = rw test refl

start_none : (at : ℕ) → header_start at [] ≡ None
unfolding header_start
start_none at = refl

-- a header is found where there is one
pub header_found : (text : List ℕ) (at k : ℕ) → header_start at text ≡ Some k → (ends : EndsInHeader text) × (at + length ends.0 ≡ k)
header_found [] at k is = absurd (let no : ◌≡◌ {A = Option ℕ} None (Some k) = sym (start_none at) ∙ is in cc)
header_found (b ∷ more) at k is = elim (cases_Bool (b == 123 && is_header_rest more)) [
  | inl here ↦
      let both = and_parts (b == 123) (is_header_rest more) here in
      let tail = tail_spells more both.1 in
      let first : b ≡ 123 = is_byte b 123 both.0 in
      let found : ◌≡◌ {A = Option ℕ} (Some at) (Some k) = sym (step_here at b more here) ∙ is in
      let place : at ≡ k = cc in
      (([], tail.0, tail.1, (let rest : more ≡ tail.0 ++ 125 ∷ [] = tail.2 in cc)), omega (arith, place))
  | inr later ↦
      let found = header_found more (at + 1) k (sym (step_on at b more later) ∙ is) in
      ((b ∷ found.0.0, found.0.1, found.0.2, ap (λ (t : List ℕ). b ∷ t) found.0.3), omega (arith, found.1))
]

abbrev Found : List ℕ → List ℕ → List ℕ → Type 0
Found text front digits = text ≡ front ++ header digits

pub header_is : (front : List ℕ) (text : List ℕ) (at : ℕ) (digits : List ℕ) → IsNumeral 10 digits → Found text front digits → header_start at text ≡ None → ⊥
header_is [] [] at digits numeral is none = cc
header_is [] (b ∷ more) at digits numeral is none =
    let first : b ≡ 123 = cc in
    let rest : more ≡ digits ++ 125 ∷ [] = cc in
    let test : (b == 123 && is_header_rest more) ≡ true = rw (byte_is b 123 first) (tail_reads more (digits, numeral, rest)) in
    let found : ◌≡◌ {A = Option ℕ} (Some at) None = sym (step_here at b more test) ∙ none in
    cc
header_is (f ∷ front) [] at digits numeral is none = cc
header_is (f ∷ front) (b ∷ more) at digits numeral is none =
    let rest : more ≡ front ++ header digits = cc in
    elim (cases_Bool (b == 123 && is_header_rest more)) as (λ _. ⊥) [
      | inl here ↦ (let found : ◌≡◌ {A = Option ℕ} (Some at) None = sym (step_here at b more here) ∙ none in cc)
      | inr later ↦ header_is front more (at + 1) digits numeral rest (sym (step_on at b more later) ∙ none)
    ]

pub header_none : (text : List ℕ) (at : ℕ) → header_start at text ≡ None → EndsInHeader text → ⊥
header_none text at none ends = header_is ends.0 text at ends.1 ends.2 ends.3 none

none_from : (text : List ℕ) (at : ℕ) (o : Option ℕ) → header_start at text ≡ o → (EndsInHeader text → ⊥) → o ≡ None
none_from text at None is other = refl
none_from text at (Some k) is other = absurd (other (header_found text at k is).0)

pub none_header : (text : List ℕ) (at : ℕ) → (EndsInHeader text → ⊥) → header_start at text ≡ None
none_header text at other = none_from text at (header_start at text) refl other

-- the one header with which a text ends is found at its place
start_from : (text front digits : List ℕ) (o : Option ℕ) → header_start 0 text ≡ o → IsNumeral 10 digits → text ≡ front ++ header digits →
    Some (length front) ≡ o
start_from text front digits None is numeral ends = absurd (header_is front text 0 digits numeral ends is)
start_from text front digits (Some k) is numeral ends =
    let found = header_found text 0 k is in
    let same = one_header front digits found.0.0 found.0.1 numeral.1 found.0.2.1 (sym ends ∙ found.0.3) in
    let place : length front ≡ k = omega (arith, ap length same.0, found.1) in
    ap Some place

pub start_is : (text front digits : List ℕ) → IsNumeral 10 digits → text ≡ front ++ header digits → Some (length front) ≡ header_start 0 text
start_is text front digits numeral ends = start_from text front digits (header_start 0 text) refl numeral ends

no_header_from : (text : List ℕ) (o : Option ℕ) → no_header text o ≡ Ok tt → o ≡ None
no_header_from text None is = refl
no_header_from text (Some at) is = absurd cc

pub closed_spells : (text word : List ℕ) → no_header text (header_start 0 word) ≡ Ok tt → EndsInHeader word → ⊥
closed_spells text word is = header_none word 0 (no_header_from text (header_start 0 word) is)

pub closed_reads : (text word : List ℕ) → (EndsInHeader word → ⊥) → no_header text (header_start 0 word) ≡ Ok tt
closed_reads text word other = ap (no_header text) (none_header word 0 other)
