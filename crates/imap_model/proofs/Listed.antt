-- The text of a list of flags tells the flags, and that of a set of UIDs the set.
use Rattle.std.proofs.Common.{◌≡◌, ℕ, ◌<◌, ◌^◌, Bool, true, false, not, cond, ◌&&◌, ◌==◌, nat_lt, List, [], ◌∷◌, ◌++◌, length, map}
use Rattle.std.proofs.Common.{decimal, refl, ap, sym, ◌∙◌, arith}
use Rattle.std.specs.Char.{is_ascii_digit}
use Rattle.std.specs.List.{list_all, join_with_byte}
use Rattle.std.proofs.lemmas.Bool.{and_parts}
use Rattle.std.proofs.lemmas.Bool.Decides.{nat_tests}
use Rattle.std.proofs.lemmas.List.Folds.{list_all-append}
use Rattle.flag_set.specs.Flag.{backslash, is_atom_byte, is_flag, name_of, spelling}
use Rattle.flag_set.specs.FlagKey.{IsKey, key_of}
use Rattle.flag_set.specs.FlagList.{flags_of}
use Rattle.flag_set.specs.FlagSet.{AllKeys, IsFlagSet}
use Rattle.flag_set.specs.FlagText.{list_text}
use Rattle.flag_set.proofs.Keys.{accepted}
use Rattle.flag_set.proofs.Texts.{spelling_accepted, spelling_key, flags_again}
use Rattle.uid_sets.specs.SequenceSet.{Spells, items_of}
use Rattle.uid_sets.specs.Spelling.{range_text, set_text}
use Rattle.uid_sets.specs.UidSet.{IsCanonical, RisesAbove}
use Rattle.uid_sets.specs.declared.uid.UidRange.{UidRange}
use Rattle.uid_sets.proofs.Fits.{same_reading}
use Rattle.uid_sets.proofs.RoundTrip.{set_spells}
use Rattle.imap_model.specs.CommandParts.{line, ◌⌢◌}
use Rattle.imap_model.proofs.Cutting.{StopsAt, cut_run, all_digits}

-- a byte that doesn't end a list in parentheses
abbrev pub is_inside : ℕ → Bool
is_inside byte = not (byte == 41)

-- a byte that doesn't end a word
abbrev pub is_solid : ℕ → Bool
is_solid byte = not (byte == 32)

not_byte : (b c : ℕ) → (b ≡ c → ⊥) → not (b == c) ≡ true
not_byte b c other = grind (arith, nat_tests)

both_true : (x y : Bool) → x ≡ true → y ≡ true → (x && y) ≡ true
both_true true true h k = refl
both_true true false h k = k
both_true false y h k = h

all_weaker : (p q : ℕ → Bool) → ((b : ℕ) → p b ≡ true → q b ≡ true) → (xs : List ℕ) → list_all p xs ≡ true → list_all q xs ≡ true
all_weaker p q weaker [] all = refl
all_weaker p q weaker (x ∷ xs) all =
    let both = and_parts (p x) (list_all p xs) all in
    both_true (q x) (list_all q xs) (weaker x both.0) (all_weaker p q weaker xs both.1)

all_both : (p : ℕ → Bool) (xs ys : List ℕ) → list_all p xs ≡ true → list_all p ys ≡ true → list_all p (xs ++ ys) ≡ true
all_both p xs ys all all' = list_all-append p xs ys ∙ both_true (list_all p xs) (list_all p ys) all all'

-- words with a byte between them
abbrev AllPassing : (ℕ → Bool) → List (List ℕ) → Type 0
AllPassing p [] = Unit {0}
AllPassing p (word ∷ rest) = (list_all p word ≡ true) × AllPassing p rest

all_joined : (p : ℕ → Bool) (c : ℕ) (words : List (List ℕ)) → p c ≡ true → AllPassing p words → list_all p (join_with_byte c words) ≡ true
all_joined p c [] at all = refl
all_joined p c (x ∷ []) at all = all.0
all_joined p c (x ∷ y ∷ rest) at all =
    all_both p x (c ∷ join_with_byte c (y ∷ rest)) all.0 (both_true (p c) (list_all p (join_with_byte c (y ∷ rest))) at (all_joined p c (y ∷ rest) at all.1))

atom_inside : (b : ℕ) → is_atom_byte b ≡ true → is_inside b ≡ true
atom_inside b is = not_byte b 41 (λ e. cc (ap is_atom_byte e))

backslash_inside : (b : ℕ) → (b == backslash) ≡ true → is_inside b ≡ true
backslash_inside b is = grind (arith, nat_tests)

flag_inside_from : (b : ℕ) (rest : List ℕ) (t : Bool) → (b == backslash) ≡ t → list_all is_atom_byte (cond t rest (b ∷ rest)) ≡ true →
    list_all is_inside (b ∷ rest) ≡ true
flag_inside_from b rest true is all = both_true (is_inside b) (list_all is_inside rest) (backslash_inside b is)
    (all_weaker is_atom_byte is_inside atom_inside rest all)
flag_inside_from b rest false is all = all_weaker is_atom_byte is_inside atom_inside (b ∷ rest) all

flag_inside : (text : List ℕ) → is_flag text ≡ true → list_all is_inside text ≡ true
flag_inside [] is = refl
flag_inside (b ∷ rest) is =
    flag_inside_from b rest (b == backslash) refl (and_parts (nat_lt 0 (length (name_of (b ∷ rest)))) (list_all is_atom_byte (name_of (b ∷ rest))) is).1

spelled_inside : (keys : List (List ℕ)) → AllKeys IsKey keys → AllPassing is_inside (map spelling keys)
spelled_inside [] all = tt
spelled_inside (key ∷ rest) all = (flag_inside (spelling key) (accepted (spelling key) (spelling_accepted key all.0)).1, spelled_inside rest all.1)

list_inside : (keys : List (List ℕ)) → AllKeys IsKey keys → list_all is_inside (list_text keys) ≡ true
list_inside keys all = all_joined is_inside 32 (map spelling keys) refl (spelled_inside keys all)

spelled_same : (left right : List (List ℕ)) → AllKeys IsKey left → AllKeys IsKey right → map spelling left ≡ map spelling right → left ≡ right
spelled_same [] [] all all' same = refl
spelled_same [] (l ∷ right) all all' same = absurd cc
spelled_same (k ∷ left) [] all all' same = absurd cc
spelled_same (k ∷ left) (l ∷ right) all all' same =
    let first : spelling k ≡ spelling l = cc in
    let rest : map spelling left ≡ map spelling right = cc in
    let one : k ≡ l = sym (spelling_key k all.0) ∙ ap key_of first ∙ spelling_key l all'.0 in
    let later : left ≡ right = spelled_same left right all.1 all'.1 rest in
    cc

-- two lists of flags in front of what ends a list
pub cut_flags : (left right : List (List ℕ)) (P Q : List (List ℕ)) → IsFlagSet left → IsFlagSet right → StopsAt is_inside P → StopsAt is_inside Q
    → line (list_text left) ⌢ P ≡ line (list_text right) ⌢ Q → (left ≡ right) × (P ≡ Q)
cut_flags left right P Q set set' stop stop' same =
    let both = cut_run is_inside (list_text left) (list_text right) P Q (list_inside left set.flags) (list_inside right set'.flags) stop stop' same in
    (spelled_same left right set.flags set'.flags (sym (flags_again left set.flags) ∙ ap flags_of both.0 ∙ flags_again right set'.flags), both.1)

digit_solid : (b : ℕ) → is_ascii_digit b ≡ true → is_solid b ≡ true
digit_solid b is = not_byte b 32 (λ e. cc (ap is_ascii_digit e))

pub solid_number : (n : ℕ) → n < 2 ^ 64 → list_all is_solid (decimal n) ≡ true
solid_number n fits = all_weaker is_ascii_digit is_solid digit_solid (decimal n) (all_digits n fits)

solid_range_from : (low high : ℕ) (t : Bool) → low < 2 ^ 64 → high < 2 ^ 64 → list_all is_solid (cond t (decimal low) (decimal low ++ 58 ∷ decimal high)) ≡ true
solid_range_from low high true fits fits' = solid_number low fits
solid_range_from low high false fits fits' = all_both is_solid (decimal low) (58 ∷ decimal high) (solid_number low fits) (solid_number high fits')

solid_ranges : (ranges : List UidRange) (floor : ℕ) → RisesAbove floor ranges → AllPassing is_solid (map range_text ranges)
solid_ranges [] floor rises = tt
solid_ranges (range ∷ ranges) floor rises = (
  solid_range_from range.low range.high (range.low == range.high) (omega (arith, rises.0.ordered, rises.0.fits))
      (omega (arith, rises.0.fits)),
  solid_ranges ranges _ rises.1,
)

pub solid_set : (ranges : List UidRange) → IsCanonical ranges → list_all is_solid (set_text ranges) ≡ true
solid_set ranges is = all_joined is_solid 44 (map range_text ranges) refl (solid_ranges ranges 0 is)

nothing_spelled : (ranges : List UidRange) → Spells [] ranges → ⊥
unfolding items_of
nothing_spelled ranges spells = cc spells.read

set_same : (left right : List UidRange) → IsCanonical left → IsCanonical right → set_text left ≡ set_text right → left ≡ right
set_same [] [] is is' same = refl
set_same [] (r ∷ right) is is' same = absurd (nothing_spelled (r ∷ right) (rw (← same) at (set_spells (r ∷ right) is' (omega arith))))
set_same (l ∷ left) [] is is' same = absurd (nothing_spelled (l ∷ left) (rw same at (set_spells (l ∷ left) is (omega arith))))
set_same (l ∷ left) (r ∷ right) is is' same =
    same_reading (set_text (r ∷ right)) (l ∷ left) (r ∷ right) (rw same at (set_spells (l ∷ left) is (omega arith))) (set_spells (r ∷ right) is' (omega arith))

-- two sets in front of a space
pub cut_set : (left right : List UidRange) (P Q : List (List ℕ)) → IsCanonical left → IsCanonical right → StopsAt is_solid P → StopsAt is_solid Q
    → line (set_text left) ⌢ P ≡ line (set_text right) ⌢ Q → (left ≡ right) × (P ≡ Q)
cut_set left right P Q is is' stop stop' same =
    let both = cut_run is_solid (set_text left) (set_text right) P Q (solid_set left is) (solid_set right is') stop stop' same in
    (set_same left right is is' both.0, both.1)
