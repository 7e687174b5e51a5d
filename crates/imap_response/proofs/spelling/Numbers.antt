-- Numbers and sets in front of a text: what is read, and what is spelled.
use Rattle.std.proofs.Common.{◌≡◌, ℕ, ◌<◌, Bool, true, false, cond, List, [], ◌∷◌, ◌++◌, length, Option, Some, None, refl, ap, sym, ◌∙◌}
use Rattle.std.proofs.Common.{subst, inl, inr, arith, Ok}
use Rattle.std.proofs.lemmas.Bool.{cases_Bool}
use Rattle.std.proofs.lemmas.Bool.Decides.{nat_tests}
use Rattle.std.proofs.lemmas.Str.Parse.{digit_from_value}
use Rattle.std.specs.Prelude.{◌==◌}
use Rattle.std.specs.List.{prefix_len}
use Rattle.std.specs.Char.{is_ascii_digit}
use Rattle.std.specs.Str.Parse.{IsNumeral, AllDigits, digits_value}
use Rattle.mail_base.specs.Number.{IsNumberUpTo}
use Rattle.imap_model.specs.Values.{is_wide_byte}
use Rattle.imap_model.specs.Numbers.{IsNumber, IsNonzero, IsModSeq}
use Rattle.imap_model.proofs.Cutting.{Stops as Ends}
use Rattle.imap_response.specs.Leaf.{is_digits, wide_at}
use Rattle.imap_response.specs.Reads.{with_rest}
use Rattle.imap_response.specs.ReadNumbers.{number_of, nonzero, number_at, nonzero_at, modseq_at}
use Rattle.imap_response.proofs.NumberLemmas.{range_is_digit, all_run, run_all, test_of, true_is, number_some, nonzero_reads}
use Rattle.imap_response.proofs.spelling.Results.{ok_is, not_byte}
use Rattle.imap_response.proofs.spelling.Runs.{AllPass, IsCut, cut_front, cut_behind, reading_cuts, all_weaker}

-- digits
pub digits_pass : (text : List ℕ) → AllDigits 10 text → AllPass is_ascii_digit text
digits_pass [] all = tt
digits_pass (c ∷ cs) all = (range_is_digit c (digit_from_value c all.0), digits_pass cs all.1)

pub numeral_is : (text : List ℕ) → is_digits text ≡ true → IsNumeral 10 text
numeral_is text test =
    let some : 0 < length text = grind (arith, nat_tests) in
    let whole : prefix_len is_ascii_digit text ≡ length text = grind (arith, nat_tests) in
    (some, run_all text whole)

pub is_numeral : (text : List ℕ) → IsNumeral 10 text → is_digits text ≡ true
is_numeral text numeral =
    let some : 0 < length text = numeral.0 in
    let whole : prefix_len is_ascii_digit text ≡ length text = all_run text numeral.1 in
    grind (arith, nat_tests)

some_cond : {A : Type 0} (t : Bool) (x y : A) → cond t (Some x) None ≡ Some y → (t ≡ true) × (x ≡ y)
some_cond true x y is = (refl, cc)
some_cond false x y is = absurd cc

pub number_spells : (largest n : ℕ) (text : List ℕ) → number_of largest text ≡ Some n → IsNumberUpTo largest text n
unfolding number_of
number_spells largest n text is =
    let both = some_cond (test_of largest text) (digits_value 10 text) n is in
    subst (IsNumberUpTo largest text) both.1 (true_is largest text both.0)

nonzero_spells : (o : Option ℕ) (n : ℕ) → nonzero o ≡ Some n → (o ≡ Some n) × (0 < n)
nonzero_spells None n is = absurd cc
nonzero_spells (Some m) n is = elim (cases_Bool (m == 0)) [
  | inl zero ↦ absurd (let no : ◌≡◌ {A = Option ℕ} None (Some n) = sym (rw zero refl) ∙ is in cc)
  | inr some ↦ let same : Some m ≡ Some n = sym (rw some refl) ∙ is in
      let other = not_byte m 0 some in
      (same, (let e : m ≡ n = cc in omega (arith, e, other)))
]

-- digits in front of a text are all of an atom that stands there
pub digits_wide : (text : List ℕ) → AllDigits 10 text → AllPass is_wide_byte text
digits_wide text all = all_weaker is_ascii_digit is_wide_byte (λ b is. grind (arith, nat_tests)) text (digits_pass text all)

-- the text begins with a run of an atom's bytes that spells this, and goes on so
pub record IsFront {A : Type 0} (N : List ℕ → A → Type 0) (text : List ℕ) (x : A) (rest : List ℕ) : Type 0 where
  pub run : List ℕ
  pub spells : N run x
  pub whole : text ≡ run ++ rest
  pub ends : Ends is_wide_byte rest

pair_is : {A : Type 0} (x y : A) (r s : List ℕ) → ◌≡◌ {A = A × List ℕ} (x, r) (y, s) → (x ≡ y) × (r ≡ s)
pair_is {A = A} x y r s is = (ap (λ (p : A × List ℕ). p.0) is, ap (λ (p : A × List ℕ). p.1) is)

with_rest_ok : {A : Type 0} (text rest : List ℕ) (o : Option A) (x : A) (r : List ℕ) → with_rest text rest o ≡ Ok (x, r) → (o ≡ Some x) × (rest ≡ r)
with_rest_ok text rest None x r is = absurd cc
with_rest_ok {A = A} text rest (Some y) x r is = let both = pair_is y x rest r (ok_is (y, rest) (x, r) is) in (ap Some both.0, both.1)

pub front_spells : {A : Type 0} (N : List ℕ → A → Type 0) (o : List ℕ → Option A) → ((run : List ℕ) (x : A) → o run ≡ Some x → N run x)
    → (text : List ℕ) (x : A) (rest : List ℕ) → with_rest text (wide_at text).1 (o (wide_at text).0) ≡ Ok (x, rest) → IsFront N text x rest
front_spells N o each text x rest is =
    let both = with_rest_ok text (wide_at text).1 (o (wide_at text).0) x rest is in
    let cut = reading_cuts is_wide_byte text in
    record {
      run = (wide_at text).0;
      spells = each (wide_at text).0 x both.0;
      whole = cut.whole ∙ ap (λ (r : List ℕ). (wide_at text).0 ++ r) both.1;
      ends = subst (Ends is_wide_byte) both.1 cut.ends;
    }

pub front_reads : {A : Type 0} (N : List ℕ → A → Type 0) (o : List ℕ → Option A) →
    ((run : List ℕ) (x : A) → N run x → (o run ≡ Some x) × AllPass is_wide_byte run)
    → (text : List ℕ) (x : A) (rest : List ℕ) → IsFront N text x rest → with_rest text (wide_at text).1 (o (wide_at text).0) ≡ Ok (x, rest)
front_reads {A = A} N o each text x rest is =
    let read = each is.run x is.spells in
    let cut : IsCut is_wide_byte text is.run rest = record { all = read.1; ends = is.ends; whole = is.whole } in
    let front : (wide_at text).0 ≡ is.run = cut_front is_wide_byte text is.run rest cut in
    let behind : (wide_at text).1 ≡ rest = cut_behind is_wide_byte text is.run rest cut in
    let some : o (wide_at text).0 ≡ Some x = ap o front ∙ read.0 in
    ap (λ (p : Option A). with_rest text (wide_at text).1 p) some ∙ ap (λ (r : List ℕ). Ok (x, r)) behind

pub number_at_spells : (text : List ℕ) (n : ℕ) (rest : List ℕ) → number_at text ≡ Ok (n, rest) → IsFront IsNumber text n rest
unfolding number_at
number_at_spells text n rest is = front_spells IsNumber (number_of 4294967295) (λ run x. number_spells 4294967295 x run) text n rest is

pub number_at_reads : (text : List ℕ) (n : ℕ) (rest : List ℕ) → IsFront IsNumber text n rest → number_at text ≡ Ok (n, rest)
unfolding number_at
number_at_reads text n rest is = front_reads IsNumber (number_of 4294967295)
    (λ run x is. (number_some 4294967295 x run is, digits_wide run is.digits.1)) text n rest is

pub nonzero_at_spells : (text : List ℕ) (n : ℕ) (rest : List ℕ) → nonzero_at text ≡ Ok (n, rest) → IsFront IsNonzero text n rest
unfolding nonzero_at
nonzero_at_spells text n rest is = front_spells IsNonzero (λ run. nonzero (number_of 4294967295 run)) (λ run x is.
    let both = nonzero_spells (number_of 4294967295 run) x is in (number_spells 4294967295 x run both.0, both.1)) text n rest is

pub nonzero_at_reads : (text : List ℕ) (n : ℕ) (rest : List ℕ) → IsFront IsNonzero text n rest → nonzero_at text ≡ Ok (n, rest)
unfolding nonzero_at
nonzero_at_reads text n rest is = front_reads IsNonzero (λ run. nonzero (number_of 4294967295 run)) (λ run x is.
    (nonzero_reads (number_of 4294967295 run) x (number_some 4294967295 x run is.0) is.1, digits_wide run is.0.digits.1)) text n rest is

pub modseq_at_spells : (text : List ℕ) (n : ℕ) (rest : List ℕ) → modseq_at text ≡ Ok (n, rest) → IsFront IsModSeq text n rest
unfolding modseq_at
modseq_at_spells text n rest is = front_spells IsModSeq (λ run. nonzero (number_of 9223372036854775807 run)) (λ run x is.
    let both = nonzero_spells (number_of 9223372036854775807 run) x is in (number_spells 9223372036854775807 x run both.0, both.1)) text n rest is

pub modseq_at_reads : (text : List ℕ) (n : ℕ) (rest : List ℕ) → IsFront IsModSeq text n rest → modseq_at text ≡ Ok (n, rest)
unfolding modseq_at
modseq_at_reads text n rest is = front_reads IsModSeq (λ run. nonzero (number_of 9223372036854775807 run)) (λ run x is.
    (nonzero_reads (number_of 9223372036854775807 run) x (number_some 9223372036854775807 x run is.0) is.1, digits_wide run is.0.digits.1)) text n rest is
