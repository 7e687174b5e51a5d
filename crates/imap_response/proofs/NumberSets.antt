-- The set of numbers, in whatever order they come.
use Rattle.std.proofs.Common.{◌≡◌, ◌↔◌, ◌⊎◌, ℕ, zero, suc, ◌+◌, ◌<◌, List, [], ◌∷◌, ◌++◌, length, drop, get_or, IsPermutation, Contains, sym, inl, inr, arith}
use Rattle.std.specs.List.{AllByRecursion}
use Rattle.std.proofs.lemmas.List.Sorted.{All-permutation, Contains-permutation, IsPermutation-sym}
use Rattle.std.proofs.lemmas.List.Elements.{recursion_from_All, All-from_recursion}
use Rattle.uid_sets.specs.Uid.{IsWithin}
use Rattle.uid_sets.specs.UidSet.{Member, IsRange, IsCanonical}
use Rattle.uid_sets.specs.declared.uid.UidRange.{UidRange}
use Rattle.uid_sets.proofs.Ranges.{one_form}
use Rattle.imap_response.specs.Sets.{IsUidNumber, IsIn, set_of_numbers}
use Rattle.imap_response.proofs.SetLemmas.{put_rises, put_member, all_rises}
use Rattle.imap_response.proofs.Steps.{here, none_left}

pub place_of : (numbers : List ℕ) (uid : ℕ) → IsIn numbers uid → Contains numbers uid
place_of [] uid is = absurd is
place_of (number ∷ numbers) uid is = elim is [
  | inl same ↦ (0, omega arith, sym same)
  | inr later ↦ let more = place_of numbers uid later in (suc more.0, (let below = more.1 in omega arith), more.2)
]

pub at_place : (numbers : List ℕ) (k uid : ℕ) → k < length numbers → get_or numbers k uid ≡ uid → IsIn numbers uid
at_place [] k uid below at = absurd (omega arith)
at_place (number ∷ numbers) zero uid below at = inl (sym at)
at_place (number ∷ numbers) (suc k) uid below at = inr (at_place numbers k uid (omega arith) at)

moved : (left right : List ℕ) (uid : ℕ) → IsPermutation left right → IsIn left uid → IsIn right uid
moved left right uid same is = let there = Contains-permutation left right uid same (place_of left uid is) in at_place right there.0 uid there.1 there.2

abbrev single : ℕ → UidRange
single n = record { low = n; high = n }

one : (n : ℕ) → IsUidNumber n → IsRange 0 (single n)
one n is = record { above = is.0; ordered = omega arith; fits = is.1 }

pub numbers_canonical : (numbers : List ℕ) → AllByRecursion IsUidNumber numbers → IsCanonical (set_of_numbers numbers)
numbers_canonical [] all = tt
numbers_canonical (number ∷ numbers) all = put_rises 0 (single number) (set_of_numbers numbers) (one number all.0) (numbers_canonical numbers all.1)

within_one : (n uid : ℕ) → IsWithin n n uid ↔ (uid ≡ n)
within_one n uid = (λ w. omega (arith, w.above, w.below), λ e. record { above = omega (arith, e); below = omega (arith, e) })

pub numbers_members : (numbers : List ℕ) (uid : ℕ) → AllByRecursion IsUidNumber numbers → Member (set_of_numbers numbers) uid ↔ IsIn numbers uid
numbers_members [] uid all = (λ m. m, λ m. m)
numbers_members (number ∷ numbers) uid all =
    let rest = numbers_members numbers uid all.1 in
    let first = put_member (single number) (set_of_numbers numbers) uid (one number all.0) (all_rises 0 _ (numbers_canonical numbers all.1)) in
    let at = within_one number uid in
    grind (arith, rest.0, rest.1, first.0, first.1, at.0, at.1)

-- a set with these members, in another order, is the set of the numbers
pub number_set : (numbers sorted : List ℕ) (set : List UidRange) → AllByRecursion IsUidNumber numbers → IsPermutation numbers sorted → IsCanonical set
    → ((uid : ℕ) → Member set uid ↔ IsIn sorted uid) → set ≡ set_of_numbers numbers
number_set numbers sorted set all same is told = one_form 0 set (set_of_numbers numbers) is (numbers_canonical numbers all) (λ uid.
    let mine = numbers_members numbers uid all in (
      λ m. mine.1 (moved sorted numbers uid (IsPermutation-sym numbers sorted same) ((told uid).0 m)),
      λ m. (told uid).1 (moved numbers sorted uid same (mine.0 m)),
    ))

-- one number more is added
pub one_added : (sorted : List ℕ) (i uid : ℕ) (old new : List UidRange) → i < length sorted
    → (Member new uid ↔ (Member old uid ⊎ (uid ≡ get_or sorted i 0))) → ((Member old uid ⊎ IsIn (drop i sorted) uid) ↔ IsIn sorted uid)
    → (Member new uid ⊎ IsIn (drop (i + 1) sorted) uid) ↔ IsIn sorted uid
one_added sorted i uid old new within added so_far =
    let at : (Member old uid ⊎ IsIn (get_or sorted i 0 ∷ drop (i + 1) sorted) uid) ↔ IsIn sorted uid = rw (here sorted i within) at so_far in
    grind (arith, added.0, added.1, at.0, at.1)

-- all are added
pub all_added : (sorted : List ℕ) (i uid : ℕ) (set : List UidRange) → i ≡ length sorted →
    ((Member set uid ⊎ IsIn (drop i sorted) uid) ↔ IsIn sorted uid) → Member set uid ↔ IsIn sorted uid
all_added sorted i uid set all so_far =
    let at : (Member set uid ⊎ ⊥) ↔ IsIn sorted uid = rw (none_left sorted i all) at so_far in
    (λ m. at.0 (inl m), λ is. elim (at.1 is) [ inl m ↦ m | inr none ↦ absurd none ])

-- none is added yet
pub none_added : (sorted : List ℕ) (uid : ℕ) → (⊥ ⊎ IsIn sorted uid) ↔ IsIn sorted uid
none_added sorted uid = (λ is. elim is [ inl none ↦ absurd none | inr m ↦ m ], λ is. inr is)

pub all_push : (numbers : List ℕ) (number : ℕ) → AllByRecursion IsUidNumber numbers → IsUidNumber number → AllByRecursion IsUidNumber (numbers ++ number ∷ [])
all_push [] number all is = (is, tt)
all_push (first ∷ numbers) number all is = (all.0, all_push numbers number all.1 is)

pub all_moved : (numbers sorted : List ℕ) → IsPermutation numbers sorted → AllByRecursion IsUidNumber numbers → AllByRecursion IsUidNumber sorted
all_moved numbers sorted same all = recursion_from_All IsUidNumber sorted
    (All-permutation IsUidNumber numbers sorted same (All-from_recursion IsUidNumber numbers all))

pub uid_at : (numbers : List ℕ) (i : ℕ) → AllByRecursion IsUidNumber numbers → i < length numbers → 0 < get_or numbers i 0
uid_at [] i all within = absurd (omega arith)
uid_at (number ∷ numbers) zero all within = all.0.0
uid_at (number ∷ numbers) (suc i) all within = uid_at numbers i all.1 (omega arith)
