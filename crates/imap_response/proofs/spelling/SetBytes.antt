-- The bytes of a set are ones of an atom.
use Rattle.std.proofs.Common.{◌≡◌, ℕ, suc, ◌+◌, ◌<◌, ◌≤◌, Bool, true, false, cond, List, [], ◌∷◌, length, take, drop, refl, ap, sym, ◌∙◌}
use Rattle.std.proofs.Common.{subst, inl, inr, arith, nat_lt, add-one, Result, Ok, min, max}
use Rattle.std.proofs.Math.Seq.{take-length}
use Rattle.std.proofs.Math.Numerals.{one-add}
use Rattle.std.proofs.lemmas.Bool.{cases_Bool}
use Rattle.std.proofs.lemmas.Bool.Decides.{nat_tests}
use Rattle.std.proofs.lemmas.List.Sums.{prefix_len-le-length}
use Rattle.std.specs.List.{AllByRecursion, before_first, after_first, position_or_len, slice_split, onto_first, prefix_len}
use Rattle.std.specs.Char.{is_ascii_digit}
use Rattle.uid_sets.specs.SequenceSet.{◌>>=◌, number, item, items, items_of, is_colon, is_comma, digit_count}
use Rattle.uid_sets.specs.declared.uid.UidRange.{UidRange}
use Rattle.uid_sets.specs.declared.set_fault.SetFault.{SetFault}
use Rattle.uid_sets.proofs.Fits.{bind_ok}
use Rattle.imap_model.specs.Values.{is_wide_byte}
use Rattle.imap_response.proofs.spelling.Runs.{AllPass, all_weaker, front_all}

abbrev AllWide : List ℕ → Type 0
AllWide text = AllPass is_wide_byte text

digit_wide : (b : ℕ) → is_ascii_digit b ≡ true → is_wide_byte b ≡ true
digit_wide b is = grind (arith, nat_tests)

colon_wide : (b : ℕ) → is_colon b ≡ true → is_wide_byte b ≡ true
colon_wide b is = grind (arith, nat_tests)

comma_wide : (b : ℕ) → is_comma b ≡ true → is_wide_byte b ≡ true
comma_wide b is = grind (arith, nat_tests)

number_whole : (at : ℕ) (text : List ℕ) (n : ℕ) → number at text ≡ Ok n → length text ≤ digit_count text
unfolding number
number_whole at text n is = grind (arith, nat_tests)

number_wide : (at : ℕ) (text : List ℕ) (n : ℕ) → number at text ≡ Ok n → AllWide text
number_wide at text n is =
    let least = number_whole at text n is in
    let most = prefix_len-le-length is_ascii_digit text in
    let len : prefix_len is_ascii_digit text ≡ length text = omega (arith, least, most) in
    let all : AllPass is_ascii_digit text = subst (AllPass is_ascii_digit) (ap (λ (n : ℕ). take n text) len ∙ take-length text)
    (front_all is_ascii_digit text) in
    all_weaker is_ascii_digit is_wide_byte digit_wide text all

-- a mark and what stands before it and behind it
mark_here : (p : ℕ → Bool) (b : ℕ) (text : List ℕ) → p b ≡ true → position_or_len p (b ∷ text) ≡ 0
mark_here p b text is = rw is refl

mark_later : (p : ℕ → Bool) (b : ℕ) (text : List ℕ) → p b ≡ false → position_or_len p (b ∷ text) ≡ suc (position_or_len p text)
mark_later p b text is = rw is (one-add _)

cut_wide : (p : ℕ → Bool) → ((b : ℕ) → p b ≡ true → is_wide_byte b ≡ true) → (text : List ℕ) (n : ℕ) → position_or_len p text ≡ n → n < length text
    → AllWide (take n text) → AllWide (drop (suc n) text) → AllWide text
cut_wide p mark [] n is within front behind = tt
cut_wide p mark (b ∷ text) n is within front behind = elim (cases_Bool (p b)) [
  | inl here ↦
      let none : n ≡ 0 = sym is ∙ mark_here p b text here in
      (mark b here, subst (λ (k : ℕ). AllWide (drop (suc k) (b ∷ text))) none behind)
  | inr later ↦
      let more : n ≡ suc (position_or_len p text) = sym is ∙ mark_later p b text later in
      let front' = subst (λ (k : ℕ). AllWide (take k (b ∷ text))) more front in
      let behind' = subst (λ (k : ℕ). AllWide (drop (suc k) (b ∷ text))) more behind in
      (front'.0, cut_wide p mark text (position_or_len p text) refl (omega arith) front'.1 behind')
]

two_wide : (at : ℕ) (text : List ℕ) (range : UidRange) → position_or_len is_colon text < length text →
    (number at (before_first is_colon text) >>= λ first. number (at + position_or_len is_colon text + 1)
    (after_first is_colon text) >>= λ second. Ok (record { low = min first second; high = max first second })) ≡ Ok range → AllWide text
two_wide at text range within is =
    let first = bind_ok (number at (before_first is_colon text))
    (λ first. number (at + position_or_len is_colon text + 1) (after_first is_colon text) >>= λ second. Ok
    (record { low = min first second; high = max first second })) range is in
    let second = bind_ok (number (at + position_or_len is_colon text + 1) (after_first is_colon text))
    (λ second. Ok (record { low = min first.0 second; high = max first.0 second })) range first.2 in
    let front = number_wide at (before_first is_colon text) first.0 first.1 in
    let behind = number_wide (at + position_or_len is_colon text + 1) (after_first is_colon text) second.0 second.1 in
    cut_wide is_colon colon_wide text (position_or_len is_colon text) refl within front
    (subst (λ (k : ℕ). AllWide (drop k text)) (add-one (position_or_len is_colon text)) behind)

one_wide : (at : ℕ) (text : List ℕ) (range : UidRange) → (number at text >>= λ only. Ok (record { low = only; high = only })) ≡ Ok range → AllWide text
one_wide at text range is =
    let only = bind_ok (number at text) (λ only. Ok (record { low = only; high = only })) range is in
    number_wide at text only.0 only.1

either_wide : (b : Bool) (x y : Result UidRange SetFault) (range : UidRange) (text : List ℕ) → cond b x y ≡ Ok range →
    (b ≡ true → x ≡ Ok range → AllWide text) → (y ≡ Ok range → AllWide text) → AllWide text
either_wide true x y range text is two one = two refl is
either_wide false x y range text is two one = one is

below : (m n : ℕ) → nat_lt m n ≡ true → m < n
below m n test = grind (arith, nat_tests)

item_wide : (at : ℕ) (text : List ℕ) (range : UidRange) → item at text ≡ Ok range → AllWide text
unfolding item
item_wide at text range is =
    either_wide (nat_lt (position_or_len is_colon text) (length text)) _ _ range text is
    (λ test two. two_wide at text range (below _ _ test) two) (one_wide at text range)

items_wide : (texts : List (List ℕ)) (at : ℕ) (ranges : List UidRange) → items at texts ≡ Ok ranges → AllByRecursion AllWide texts
unfolding items
items_wide [] at ranges is = tt
items_wide (text ∷ texts) at ranges is =
    let first = bind_ok (item at text) (λ range. items (at + (length text + 1)) texts >>= λ ranges. Ok (range ∷ ranges)) ranges is in
    let more = bind_ok (items (at + (length text + 1)) texts) (λ ranges. Ok (first.0 ∷ ranges)) ranges first.2 in
    (item_wide at text first.0 first.1, items_wide texts _ more.0 more.1)

-- pieces between commas
onto_wide : (b : ℕ) (pieces : List (List ℕ)) → AllByRecursion AllWide (onto_first b pieces) → (is_wide_byte b ≡ true) × AllByRecursion AllWide pieces
onto_wide b [] all = (all.0.0, tt)
onto_wide b (piece ∷ pieces) all = (all.0.0, (all.0.1, all.1))

either_piece : (b : ℕ) (text : List ℕ) (t : Bool) → is_comma b ≡ t →
    AllByRecursion AllWide (cond t ([] ∷ slice_split is_comma text) (onto_first b (slice_split is_comma text))) →
    (is_wide_byte b ≡ true) × AllByRecursion AllWide (slice_split is_comma text)
either_piece b text true is all = (comma_wide b is, all.1)
either_piece b text false is all = onto_wide b (slice_split is_comma text) all

pieces_wide : (text : List ℕ) → AllByRecursion AllWide (slice_split is_comma text) → AllWide text
pieces_wide [] all = tt
pieces_wide (b ∷ text) all =
    let both = either_piece b text (is_comma b) refl all in (both.0, pieces_wide text both.1)

pub set_wide : (text : List ℕ) (written : List UidRange) → items_of text ≡ Ok written → AllPass is_wide_byte text
unfolding items_of
set_wide [] written is = tt
set_wide (b ∷ text) written is = pieces_wide (b ∷ text) (items_wide _ 0 written is)
