-- Where two texts that begin alike go on alike.
use Rattle.std.proofs.Common.{◌≡◌, ℕ, ◌<◌, ◌^◌, Bool, true, false, List, [], ◌∷◌, ◌++◌, length, get_or, decimal, refl, ap, ◌∙◌, arith}
use Rattle.std.specs.Char.{is_ascii_digit}
use Rattle.std.specs.Int.{IsInRange}
use Rattle.std.specs.List.{list_all}
use Rattle.std.proofs.lemmas.Bool.{and_parts}
use Rattle.std.proofs.lemmas.Bool.Decides.{nat_tests}
use Rattle.std.proofs.lemmas.Fmt.{decimal_is_IsNumeral, decimal_injective}
use Rattle.std.proofs.lemmas.List.{append_cancel_left, get_or_append_left, get_or_default}
use Rattle.std.proofs.lemmas.List.Sums.{list_all-from_AllPass}
use Rattle.std.proofs.lemmas.Str.Parse.{digit_at}
use Rattle.imap_model.specs.CommandParts.{line, number, ◌⌢◌}

-- the list doesn't begin with a byte that passes
abbrev pub Stops : (ℕ → Bool) → List ℕ → Type 0
Stops p [] = Unit {0}
Stops p (b ∷ bs) = p b ≡ false

two_tests : (p : ℕ → Bool) (b y : ℕ) → b ≡ y → p b ≡ false → p y ≡ true → ⊥
two_tests p b y same fails all = cc (ap p same)

-- two runs of bytes that pass, in front of what doesn't go on with one
pub run_same : (p : ℕ → Bool) (xs ys r s : List ℕ) → list_all p xs ≡ true → list_all p ys ≡ true → Stops p r → Stops p s →
    xs ++ r ≡ ys ++ s → (xs ≡ ys) × (r ≡ s)
run_same p [] [] r s all all' stop stop' same = (refl, same)
run_same p [] (y ∷ ys) [] s all all' stop stop' same = absurd cc
run_same p [] (y ∷ ys) (b ∷ r) s all all' stop stop' same =
    let first : b ≡ y = cc in
    absurd (two_tests p b y first stop (and_parts (p y) (list_all p ys) all').0)
run_same p (x ∷ xs) [] r [] all all' stop stop' same = absurd cc
run_same p (x ∷ xs) [] r (b ∷ s) all all' stop stop' same =
    let first : b ≡ x = cc in
    absurd (two_tests p b x first stop' (and_parts (p x) (list_all p xs) all).0)
run_same p (x ∷ xs) (y ∷ ys) r s all all' stop stop' same =
    let first : x ≡ y = cc in
    let rest : xs ++ r ≡ ys ++ s = cc in
    let both = run_same p xs ys r s (and_parts (p x) (list_all p xs) all).1 (and_parts (p y) (list_all p ys) all').1 stop stop' rest in
    let tails : xs ≡ ys = both.0 in
    (cc, both.1)

-- there is a part, and the first one doesn't begin with a byte that passes
abbrev pub StopsAt : (ℕ → Bool) → List (List ℕ) → Type 0
StopsAt p [] = ⊥
StopsAt p (part ∷ parts) = Stops p part

pub stops_line : (p : ℕ → Bool) (b : ℕ) (bs : List ℕ) (later : List (List ℕ)) → p b ≡ false → StopsAt p (line (b ∷ bs) ⌢ later)
unfolding ◌⌢◌
stops_line p b bs [] fails = fails
stops_line p b bs (x ∷ xs) fails = fails

pub cut_run : (p : ℕ → Bool) (xs ys : List ℕ) (P Q : List (List ℕ)) → list_all p xs ≡ true → list_all p ys ≡ true → StopsAt p P → StopsAt p Q
    → line xs ⌢ P ≡ line ys ⌢ Q → (xs ≡ ys) × (P ≡ Q)
unfolding ◌⌢◌
cut_run p xs ys [] Q all all' stop stop' same = absurd stop
cut_run p xs ys (r ∷ P) [] all all' stop stop' same = absurd stop'
cut_run p xs ys (r ∷ P) (s ∷ Q) all all' stop stop' same =
    let first : xs ++ r ≡ ys ++ s = cc in
    let rest : P ≡ Q = cc in
    let both = run_same p xs ys r s all all' stop stop' first in
    let tails : r ≡ s = both.1 in
    (both.0, cc)

pub cut_same : (xs : List ℕ) (P Q : List (List ℕ)) → 0 < length P → 0 < length Q → line xs ⌢ P ≡ line xs ⌢ Q → P ≡ Q
unfolding ◌⌢◌
cut_same xs [] Q some some' same = absurd (omega arith)
cut_same xs (r ∷ P) [] some some' same = absurd (omega arith)
cut_same xs (r ∷ P) (s ∷ Q) some some' same =
    let first : xs ++ r ≡ xs ++ s = cc in
    let rest : P ≡ Q = cc in
    let tails : r ≡ s = append_cancel_left xs r s first in
    cc

-- a byte of the first part
abbrev pub byte_at : ℕ → List (List ℕ) → ℕ
byte_at k [] = 0
byte_at k (part ∷ parts) = get_or part k 0

pub byte_of_line : (k : ℕ) (xs : List ℕ) (P : List (List ℕ)) → k < length xs → byte_at k (line xs ⌢ P) ≡ get_or xs k 0
unfolding ◌⌢◌
byte_of_line k xs [] within = refl
byte_of_line k xs (r ∷ P) within = get_or_append_left xs r 0 k within

digit_is : (c : ℕ) → IsInRange 48 57 c → is_ascii_digit c ≡ true
digit_is c within = grind (arith, nat_tests)

pub all_digits : (n : ℕ) → n < 2 ^ 64 → list_all is_ascii_digit (decimal n) ≡ true
all_digits n fits =
    let numeral = decimal_is_IsNumeral n fits in
    list_all-from_AllPass is_ascii_digit (decimal n) (λ k d within. ap is_ascii_digit (get_or_default (decimal n) k d 0 within)
    ∙ digit_is _ (digit_at (decimal n) k numeral.0.1 within))

-- two numbers in front of what doesn't go on with a digit
pub cut_number : (m n : ℕ) (P Q : List (List ℕ)) → m < 2 ^ 64 → n < 2 ^ 64 → StopsAt is_ascii_digit P → StopsAt is_ascii_digit Q
    → number m ⌢ P ≡ number n ⌢ Q → (m ≡ n) × (P ≡ Q)
cut_number m n P Q fits fits' stop stop' same =
    let both = cut_run is_ascii_digit (decimal m) (decimal n) P Q (all_digits m fits) (all_digits n fits') stop stop' same in
    (decimal_injective m n fits fits' both.0, both.1)
