-- Where a text is cut at the first of a byte.
use Rattle.std.proofs.Common.{◌≡◌, ◌<◌, ◌≤◌, ◌^◌, ◌&&◌, ℕ, zero, suc, get_or, ◌+◌, Bool, true, false, not, ◌==◌, List, [], ◌∷◌, ◌++◌, length, take, drop, decimal, refl, ap, sym, ◌∙◌, arith}
use Rattle.std.specs.Char.{is_ascii_digit}
use Rattle.imap_model.proofs.Cutting.{all_digits}
use Rattle.std.specs.List.{list_all, before_first, after_first, position_or_len}
use Rattle.command_texts.specs.Arguments.{Lacks}
use Rattle.std.proofs.lemmas.Bool.{and_parts}
use Rattle.std.proofs.lemmas.Bool.Decides.{nat_tests}
use Rattle.std.proofs.lemmas.Fmt.{decimal_digit}
use Rattle.std.proofs.lemmas.List.Folds.{list_all-append}
use Rattle.std.proofs.lemmas.List.{take_all, drop_all, length-drop}
use Rattle.std.proofs.Math.Seq.{take-append_seam, drop-append-add}

same_byte : (mark : ℕ) → (mark == mark) ≡ true
same_byte mark = grind (arith, nat_tests)

place_is : (mark : ℕ) (word rest : List ℕ) → Lacks mark word → position_or_len (λ byte. byte == mark) (word ++ mark ∷ rest) ≡ length word
place_is mark [] rest all = rw (same_byte mark) refl
place_is mark (b ∷ word) rest all =
    let both = and_parts (not (b == mark)) (list_all (λ byte. not (byte == mark)) word) all in
    rw both.0 (omega (arith, place_is mark word rest both.1))

place_none : (mark : ℕ) (word : List ℕ) → Lacks mark word → position_or_len (λ byte. byte == mark) word ≡ length word
place_none mark [] all = refl
place_none mark (b ∷ word) all =
    let both = and_parts (not (b == mark)) (list_all (λ byte. not (byte == mark)) word) all in
    rw both.0 (omega (arith, place_none mark word both.1))

pub before_is : (mark : ℕ) (text word rest : List ℕ) → Lacks mark word → text ≡ word ++ mark ∷ rest → before_first (λ byte. byte == mark) text ≡ word
before_is mark text word rest all is = rw is (ap (λ n. take n (word ++ mark ∷ rest)) (place_is mark word rest all) ∙ take-append_seam word (mark ∷ rest))

pub after_is : (mark : ℕ) (text word rest : List ℕ) → Lacks mark word → text ≡ word ++ mark ∷ rest → after_first (λ byte. byte == mark) text ≡ rest
after_is mark text word rest all is = rw is (ap (λ n. drop (n + 1) (word ++ mark ∷ rest)) (place_is mark word rest all) ∙ drop-append-add word (mark ∷ rest) 1)

-- where the mark is missing
pub before_none : (mark : ℕ) (text : List ℕ) → Lacks mark text → before_first (λ byte. byte == mark) text ≡ text
before_none mark text all = ap (λ n. take n text) (place_none mark text all) ∙ take_all (length text) text (omega arith)

pub after_none : (mark : ℕ) (text : List ℕ) → Lacks mark text → after_first (λ byte. byte == mark) text ≡ []
after_none mark text all = ap (λ n. drop (n + 1) text) (place_none mark text all) ∙ drop_all (length text + 1) text (omega arith)

pub shorter : (mark : ℕ) (text : List ℕ) → 0 < length text → length (after_first (λ byte. byte == mark) text) < length text
shorter mark text some = omega (arith, length-drop (position_or_len (λ byte. byte == mark) text + 1) text)

other_byte : (p : ℕ → Bool) (mark b : ℕ) → p mark ≡ false → p b ≡ true → not (b == mark) ≡ true
other_byte p mark b fails is = not_same b mark (λ e. two p b mark e is fails)
  where
    two : (p : ℕ → Bool) (b mark : ℕ) → b ≡ mark → p b ≡ true → p mark ≡ false → ⊥
    two p b mark e is fails = cc (ap p e)

    not_same : (b mark : ℕ) → (b ≡ mark → ⊥) → not (b == mark) ≡ true
    not_same b mark other = grind (arith, nat_tests)

both_true : (x y : Bool) → x ≡ true → y ≡ true → (x && y) ≡ true
both_true true true h k = refl
both_true true false h k = k
both_true false y h k = h

-- bytes that pass a test lack one that fails it
pub passing_lack : (p : ℕ → Bool) (mark : ℕ) (bytes : List ℕ) → p mark ≡ false → list_all p bytes ≡ true → Lacks mark bytes
passing_lack p mark [] fails all = refl
passing_lack p mark (b ∷ bytes) fails all =
    let both = and_parts (p b) (list_all p bytes) all in
    both_true (not (b == mark)) (list_all (λ byte. not (byte == mark)) bytes) (other_byte p mark b fails both.0) (passing_lack p mark bytes fails both.1)

pub digits_lack : (mark n : ℕ) → n < 2 ^ 64 → is_ascii_digit mark ≡ false → Lacks mark (decimal n)
digits_lack mark n fits other = passing_lack is_ascii_digit mark (decimal n) other (all_digits n fits)

pub both_lack : (mark : ℕ) (word later : List ℕ) → Lacks mark word → Lacks mark later → Lacks mark (word ++ later)
both_lack mark word later one other =
    list_all-append (λ byte. not (byte == mark)) word later ∙ both_true (list_all (λ byte. not (byte == mark)) word) (list_all (λ byte. not (byte == mark)) later) one other

-- a number, and behind it that of a try
pub tried_lacks : (n t : ℕ) → n < 2 ^ 64 → t < 2 ^ 64 → Lacks 32 (decimal n ++ 82 ∷ decimal t)
tried_lacks n t fits few = both_lack 32 (decimal n) (82 ∷ decimal t) (digits_lack 32 n fits refl) (both_lack 32 (82 ∷ []) (decimal t) refl (digits_lack 32 t few refl))

-- the digit of a later try
pub two_is : decimal 2 ≡ 50 ∷ []
two_is = decimal_digit 2 (omega arith)

pub three_is : decimal 3 ≡ 51 ∷ []
three_is = decimal_digit 3 (omega arith)

first_of : (digits : List ℕ) (d : ℕ) → digits ≡ d ∷ [] → get_or digits 0 0 ≡ d
first_of digits d is = ap (λ x. get_or x 0 0) is

pub second_try : (t : ℕ) → 2 ≤ t → t ≤ 3 → get_or (decimal t) 0 0 ≡ 50 → 2 ≡ t
second_try zero low high is = absurd (omega (arith, low))
second_try (suc zero) low high is = absurd (omega (arith, low))
second_try (suc (suc zero)) low high is = refl
second_try (suc (suc (suc zero))) low high is = let e : ◌≡◌ {A = ℕ} 51 50 = sym (first_of (decimal 3) 51 three_is) ∙ is in absurd (omega (arith, e))
second_try (suc (suc (suc (suc k)))) low high is = absurd (omega (arith, high))

pub third_try : (t : ℕ) → 2 ≤ t → t ≤ 3 → get_or (decimal t) 0 0 ≡ 51 → 3 ≡ t
third_try zero low high is = absurd (omega (arith, low))
third_try (suc zero) low high is = absurd (omega (arith, low))
third_try (suc (suc zero)) low high is = let e : ◌≡◌ {A = ℕ} 50 51 = sym (first_of (decimal 2) 50 two_is) ∙ is in absurd (omega (arith, e))
third_try (suc (suc (suc zero))) low high is = refl
third_try (suc (suc (suc (suc k)))) low high is = absurd (omega (arith, high))

pub no_try : (t : ℕ) → 2 ≤ t → t ≤ 3 → (get_or (decimal t) 0 0 ≡ 50 → ⊥) → (get_or (decimal t) 0 0 ≡ 51 → ⊥) → ⊥
no_try zero low high second third = omega (arith, low)
no_try (suc zero) low high second third = omega (arith, low)
no_try (suc (suc zero)) low high second third = second (first_of (decimal 2) 50 two_is)
no_try (suc (suc (suc zero))) low high second third = third (first_of (decimal 3) 51 three_is)
no_try (suc (suc (suc (suc k)))) low high second third = omega (arith, high)
