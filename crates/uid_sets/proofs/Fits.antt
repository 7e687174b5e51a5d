-- What is read is a range of nonzero numbers of 32 bits.
use Rattle.std.proofs.Common.{◌≡◌, ◌⊎◌, inl, inr, ℕ, nat_lt, ◌+◌, ◌<◌, ◌^◌, min, max, Bool, true, false, cond, List, [], ◌∷◌, length}
use Rattle.std.proofs.Common.{Result, Ok, Err, refl, ap, sym, ◌∙◌, arith}
use Rattle.std.specs.List.{AllByRecursion, before_first, after_first, position_or_len}
use Rattle.std.proofs.lemmas.Bool.Decides.{nat_tests}
use Rattle.uid_sets.specs.UidSet.{IsRange}
use Rattle.uid_sets.specs.SequenceSet.{◌>>=◌, number, item, items, items_of, is_colon, Spells, Refuses}
use Rattle.uid_sets.proofs.Ranges.{one_form}
use Rattle.uid_sets.specs.declared.uid.UidRange.{UidRange}
use Rattle.uid_sets.specs.declared.set_fault.SetFault.{SetFault}
use Rattle.uid_sets.specs.declared.set_fault.SetFault.TheVariants.{Memory, Empty, Zero, BadNumber, BadByte}

pub bind_ok : {A B : Type 0} (read : Result A SetFault) (f : A → Result B SetFault) (y : B) → (read >>= f) ≡ Ok y → (x : A) × (read ≡ Ok x) × (f x ≡ Ok y)
bind_ok (Ok x) f y is = (x, refl, is)
bind_ok (Err e) f y is = absurd cc

-- what an Ok holds
Ok_injective : {A : Type 0} {x y : A} → ◌≡◌ {A = Result A SetFault} (Ok x) (Ok y) → x ≡ y
Ok_injective is = cc

pub number_fits : (at : ℕ) (text : List ℕ) (n : ℕ) → number at text ≡ Ok n → (0 < n) × (n < 2 ^ 32)
unfolding number
number_fits at text n is = grind (arith, nat_tests)

two_fit : (at : ℕ) (text : List ℕ) (range : UidRange) → (number at (before_first is_colon text) >>= λ first. number
    (at + position_or_len is_colon text + 1) (after_first is_colon text) >>= λ second. Ok
    (record { low = min first second; high = max first second })) ≡ Ok range → IsRange 0 range
two_fit at text range is =
    let first = bind_ok (number at (before_first is_colon text))
    (λ first. number (at + position_or_len is_colon text + 1) (after_first is_colon text) >>= λ second. Ok
    (record { low = min first second; high = max first second })) range is in
    let second = bind_ok (number (at + position_or_len is_colon text + 1) (after_first is_colon text))
    (λ second. Ok (record { low = min first.0 second; high = max first.0 second })) range first.2 in
    let low = number_fits at _ first.0 first.1 in
    let high = number_fits _ _ second.0 second.1 in
    rw (← Ok_injective second.2) (record { above = omega arith; ordered = omega arith; fits = omega arith })

one_fits : (at : ℕ) (text : List ℕ) (range : UidRange) → (number at text >>= λ only. Ok (record { low = only; high = only })) ≡ Ok range → IsRange 0 range
one_fits at text range is =
    let only = bind_ok (number at text) (λ only. Ok (record { low = only; high = only })) range is in
    let value = number_fits at text only.0 only.1 in
    rw (← Ok_injective only.2) (record { above = omega arith; ordered = omega arith; fits = omega arith })

either_fits : (b : Bool) (x y : Result UidRange SetFault) (range : UidRange) → cond b x y ≡ Ok range → (x ≡ Ok range → IsRange 0 range) →
    (y ≡ Ok range → IsRange 0 range) → IsRange 0 range
either_fits true x y range is two one = two is
either_fits false x y range is two one = one is

item_fits : (at : ℕ) (text : List ℕ) (range : UidRange) → item at text ≡ Ok range → IsRange 0 range
unfolding item
item_fits at text range is =
    either_fits (nat_lt (position_or_len is_colon text) (length text)) _ _ range is (two_fit at text range) (one_fits at text range)

items_fit : (texts : List (List ℕ)) (at : ℕ) (ranges : List UidRange) → items at texts ≡ Ok ranges → AllByRecursion (IsRange 0) ranges
unfolding items
items_fit [] at ranges is = rw (← Ok_injective is) tt
items_fit (text ∷ texts) at ranges is =
    let first = bind_ok (item at text) (λ range. items (at + (length text + 1)) texts >>= λ ranges. Ok (range ∷ ranges)) ranges is in
    let more = bind_ok (items (at + (length text + 1)) texts) (λ ranges. Ok (first.0 ∷ ranges)) ranges first.2 in
    rw (← Ok_injective more.2) (item_fits at text first.0 first.1, items_fit texts _ more.0 more.1)

pub items_of_fit : (text : List ℕ) (ranges : List UidRange) → items_of text ≡ Ok ranges → AllByRecursion (IsRange 0) ranges
unfolding items_of
items_of_fit [] ranges is = absurd cc
items_of_fit (byte ∷ bytes) ranges is = items_fit _ 0 ranges is

bind_err : {A B : Type 0} (read : Result A SetFault) (f : A → Result B SetFault) (e : SetFault) → (read >>= f) ≡ Err e →
    (read ≡ Err e) ⊎ ((x : A) × (f x ≡ Err e))
bind_err (Ok x) f e is = inr (x, is)
bind_err (Err d) f e is = inl cc

number_not_empty : (at : ℕ) (text : List ℕ) → number at text ≡ Err Empty → ⊥
unfolding number
number_not_empty at text is = grind (arith, nat_tests)

either_not_empty : (b : Bool) (x y : Result UidRange SetFault) → cond b x y ≡ Err Empty → (x ≡ Err Empty → ⊥) → (y ≡ Err Empty → ⊥) → ⊥
either_not_empty true x y is two one = two is
either_not_empty false x y is two one = one is

two_not_empty : (at : ℕ) (text : List ℕ) → ◌≡◌ {A = Result UidRange SetFault}
    (number at (before_first is_colon text) >>= λ first. number (at + position_or_len is_colon text + 1)
    (after_first is_colon text) >>= λ second. Ok (record { low = min first second; high = max first second })) (Err Empty) → ⊥
two_not_empty at text is =
    elim (bind_err {B = UidRange} (number at (before_first is_colon text))
    (λ first. number (at + position_or_len is_colon text + 1) (after_first is_colon text) >>= λ second. Ok
    (record { low = min first second; high = max first second })) Empty is) as (λ _. ⊥) [
      | inl first ↦ number_not_empty at _ first
      | inr more ↦ elim (bind_err {B = UidRange} (number (at + position_or_len is_colon text + 1) (after_first is_colon text))
          (λ second. Ok (record { low = min more.0 second; high = max more.0 second })) Empty more.1) as (λ _. ⊥) [
            | inl second ↦ number_not_empty _ _ second
            | inr done ↦ (let no = done.1 in cc)
          ]
    ]

one_not_empty : (at : ℕ) (text : List ℕ) → ◌≡◌ {A = Result UidRange SetFault}
    (number at text >>= λ only. Ok (record { low = only; high = only })) (Err Empty) → ⊥
one_not_empty at text is =
    elim (bind_err {B = UidRange} (number at text) (λ only. Ok (record { low = only; high = only })) Empty is) as (λ _. ⊥) [
      | inl only ↦ number_not_empty at text only
      | inr done ↦ (let no = done.1 in cc)
    ]

item_not_empty : (at : ℕ) (text : List ℕ) → item at text ≡ Err Empty → ⊥
unfolding item
item_not_empty at text is =
    either_not_empty (nat_lt (position_or_len is_colon text) (length text)) _ _ is (two_not_empty at text) (one_not_empty at text)

items_not_empty : (texts : List (List ℕ)) (at : ℕ) → items at texts ≡ Err Empty → ⊥
unfolding items
items_not_empty [] at is = cc
items_not_empty (text ∷ texts) at is =
    elim (bind_err (item at text) (λ range. items (at + (length text + 1)) texts >>= λ ranges. Ok (range ∷ ranges)) Empty is) as (λ _. ⊥) [
      | inl first ↦ item_not_empty at text first
      | inr more ↦ elim (bind_err (items (at + (length text + 1)) texts) (λ ranges. Ok (more.0 ∷ ranges)) Empty more.1) as (λ _. ⊥) [
        | inl second ↦ items_not_empty texts _ second
        | inr done ↦ (let no = done.1 in cc)
      ]
    ]

-- the fault of no bytes comes of no bytes alone
pub items_of_empty : (text : List ℕ) → items_of text ≡ Err Empty → text ≡ []
unfolding items_of
items_of_empty [] is = refl
items_of_empty (byte ∷ bytes) is = absurd (items_not_empty _ 0 is)

-- what an Err holds
pub Err_injective : {A : Type 0} {x y : SetFault} → ◌≡◌ {A = Result A SetFault} (Err x) (Err y) → x ≡ y
Err_injective is = cc

-- no refusal of some bytes is that of none
pub empty_refused : (text : List ℕ) (fault : SetFault) → 0 < length text → Refuses text fault → fault ≡ Empty → ⊥
empty_refused text Memory some refused is = cc
empty_refused text Empty some refused is =
    let none = ap length (items_of_empty text refused) in omega arith
empty_refused text (Zero at) some refused is = cc
empty_refused text (BadNumber at) some refused is = cc
empty_refused text (BadByte at) some refused is = cc

-- one text spells one set
pub same_reading : (text : List ℕ) (left right : List UidRange) → Spells text left → Spells text right → left ≡ right
same_reading text left right first second =
    let written = Ok_injective (sym first.read ∙ second.read) in
    one_form 0 left right first.canonical second.canonical (λ uid.
    let l = first.members uid in
    let r = rw (← written) at (second.members uid) in
    (λ member. r.1 (l.0 member), λ member. l.1 (r.0 member)))
