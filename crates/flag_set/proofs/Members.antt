-- What sets have, and that a set is fixed by what it has.
use Rattle.std.proofs.Common.{◌≡◌, ℕ, zero, suc, ◌<◌, ◌≤◌, ◌⊎◌, ◌↔◌, Bool, true, false, cond, not, ◌&&◌, ◌||◌, List, [], ◌∷◌, length}
use Rattle.std.proofs.Common.{get_or, IsTrue, Result, Ok, Err, OnOk, IfErr, refl, sym, ap, ◌∙◌, subst, inl, inr, arith, add-one}
use Rattle.std.proofs.lemmas.Bool.{and_parts, both_ways, cases_lt}
use Rattle.std.proofs.lemmas.Cmp.{nat_list_cmp_total, nat_list_eq_equiv}
use Rattle.std.proofs.lemmas.List.Sorted.{searchable_from_sorted}
use Rattle.std.proofs.lemmas.Map.Views.{list_any-from_Contains, Contains-from_any}
use Rattle.std.specs.Cmp.Lexicographic.{lists_equiv, pointwise, same_text, texts_ties}
use Rattle.std.specs.Cmp.{both_ways as both_ways_same}
use Rattle.std.specs.List.{All, AllWithin, Contains, HoldsAt, filter, list_all, insert}
use Rattle.std.specs.List.Sorted.{IsBinarySearchResult, IsNonDecreasingBy, IsSearchInRange, IsSortedBy}
use Rattle.std.specs.Ordering.{match_ordering, ordering_index, ordering_reverse, is_eq, is_lt}
use Rattle.std.specs.Str.{bytes_eq}
use Rattle.std.specs.declared.cmp.Ordering.{Ordering}
use Rattle.std.specs.declared.cmp.Ordering.TheVariants.{Less, Equal, Greater}
use Rattle.flag_set.specs.FlagKey.{IsKey}
use Rattle.flag_set.specs.FlagSet.{order, AllKeys, IsFlagSet, IsGap, IsRising, has, put, union, minus}
use Rattle.flag_set.proofs.Order.{order_same, order_itself, order_flip, below_all}

pub member_from_has : (keys : List (List ℕ)) (key : List ℕ) → has keys key ≡ true → Contains keys key
member_from_has keys key h = Contains-from_any (λ x y e. same_text x y (sym e)) key keys h

pub has_from_member : (keys : List (List ℕ)) (key : List ℕ) → Contains keys key → has keys key ≡ true
has_from_member keys key h = list_any-from_Contains nat_list_eq_equiv key keys h

or_again : (a b : Bool) → (a || b) ≡ (a || (a || b))
or_again true b = refl
or_again false b = refl

or_swap : (a b c : Bool) → (b || (a || c)) ≡ (a || (b || c))
or_swap true true c = refl
or_swap true false c = refl
or_swap false b c = refl

or_group : (a b c : Bool) → (a || (b || c)) ≡ ((a || b) || c)
or_group true b c = refl
or_group false b c = refl

has-put_by : (o : Ordering) (key first q : List ℕ) (rest later : List (List ℕ)) → order key first ≡ o →
    has later q ≡ (bytes_eq q key || has rest q) → has (match_ordering o (key ∷ first ∷ rest) (first ∷ rest) (first ∷ later)) q
    ≡ (bytes_eq q key || (bytes_eq q first || has rest q))
has-put_by Less key first q rest later h e = refl
has-put_by Equal key first q rest later h e = or_again (bytes_eq q first) (has rest q)
    ∙ ap (λ k. bytes_eq q k || (bytes_eq q first || has rest q)) (sym (order_same key first h))
has-put_by Greater key first q rest later h e = ap (λ b. bytes_eq q first || b) e ∙ or_swap (bytes_eq q key) (bytes_eq q first) (has rest q)

pub has-put : (key : List ℕ) (keys : List (List ℕ)) (q : List ℕ) → has (put key keys) q ≡ (bytes_eq q key || has keys q)
has-put key [] q = refl
has-put key (x ∷ xs) q = has-put_by (order key x) key x q xs (put key xs) refl (has-put key xs q)

pub has-union : (a b : List (List ℕ)) (q : List ℕ) → has (union a b) q ≡ (has a q || has b q)
has-union [] b q = refl
has-union (x ∷ xs) b q = has-put x (union xs b) q ∙ ap (λ t. bytes_eq q x || t) (has-union xs b q) ∙ or_group (bytes_eq q x) (has xs q) (has b q)

-- a key below all others is none of them
pub has-below : (key : List ℕ) (keys : List (List ℕ)) → AllKeys (λ later. order key later ≡ Less) keys → has keys key ≡ false
has-below key [] all = refl
has-below key (x ∷ xs) all = ap (λ b. b || has xs key) (texts_ties key x ∙ ap is_eq all.0) ∙ has-below key xs all.1

eq_itself : (a : List ℕ) → bytes_eq a a ≡ true
eq_itself a = nat_list_eq_equiv.refl a

-- a set that has the key stays as it is
pub put_held : (key : List ℕ) (keys : List (List ℕ)) → IsRising keys → has keys key ≡ true → put key keys ≡ keys
put_held key [] up h = cc
put_held key (x ∷ xs) up h =
    elim (order key x) as (λ o. order key x ≡ o → match_ordering o (key ∷ x ∷ xs) (x ∷ xs) (x ∷ put key xs) ≡ x ∷ xs) [
      | Less ↦ λ e. absurd (both_ways _ (has-below key (x ∷ xs) (e, below_all key x xs e up.0)) h)
      | Equal ↦ λ e. refl
      | Greater ↦ λ e. ap (λ l. x ∷ l) (put_held key xs up.1 (ap (λ b. b || has xs key) (sym (texts_ties key x ∙ ap is_eq e)) ∙ h))
    ] refl

-- the key goes in between the lower keys and the higher ones
pub put_between : (key : List ℕ) (keys : List (List ℕ)) (at : ℕ) → at ≤ length keys → AllWithin (λ y. order y key ≡ Less) keys 0 at →
    AllWithin (λ y. order y key ≡ Greater) keys at (length keys) → put key keys ≡ insert keys at key
put_between key [] zero h low high = refl
put_between key [] (suc at) h low high = absurd (omega arith)
put_between key (x ∷ xs) zero h low high =
    ap (λ o. match_ordering o (key ∷ x ∷ xs) (x ∷ xs) (x ∷ put key xs)) (order_flip x key ∙ ap ordering_reverse (high 0 key (omega arith) (omega arith)))
put_between key (x ∷ xs) (suc at) h low high =
    ap (λ o. match_ordering o (key ∷ x ∷ xs) (x ∷ xs) (x ∷ put key xs)) (order_flip x key ∙ ap ordering_reverse (low 0 key (omega arith) (omega arith)))
    ∙ ap (λ l. x ∷ l) (put_between key xs at (omega arith) (λ k d p q. low (suc k) d (omega arith) (omega arith))
    (λ k d p q. high (suc k) d (omega arith) (omega arith)))

held_first : (x : List ℕ) (xs : List (List ℕ)) → has (x ∷ xs) x ≡ true
held_first x xs = ap (λ b. b || has xs x) (eq_itself x)

-- what a set has fixes it
tails_have : (x : List ℕ) (xs ys : List (List ℕ)) (q : List ℕ) → has xs x ≡ false → has ys x ≡ false →
    (bytes_eq q x || has xs q) ≡ (bytes_eq q x || has ys q) → has xs q ≡ has ys q
tails_have x xs ys q p r h =
    elim (bytes_eq q x) as (λ b. bytes_eq q x ≡ b → (b || has xs q) ≡ (b || has ys q) → has xs q ≡ has ys q) [
      | true ↦ λ e _. let same : q ≡ x = same_text q x (sym e) in ap (has xs) same ∙ p ∙ sym r ∙ sym (ap (has ys) same)
      | false ↦ λ e k. k
    ] refl h

first_same : (x y : List ℕ) (xs ys : List (List ℕ)) → x ≡ y → IsRising (x ∷ xs) → IsRising (y ∷ ys) →
    ((q : List ℕ) → has (x ∷ xs) q ≡ has (y ∷ ys) q) → (((q : List ℕ) → has xs q ≡ has ys q) → xs ≡ ys) → x ∷ xs ≡ y ∷ ys
first_same x y xs ys e up vp same more =
    let below : has ys x ≡ false = ap (has ys) e ∙ has-below y ys vp.0 in
    let rest : xs ≡ ys = more (λ q. tails_have x xs ys q (has-below x xs up.0) below (same q ∙ ap (λ k. bytes_eq q k || has ys q) (sym e))) in
    ap (λ k. k ∷ xs) e ∙ ap (λ l. y ∷ l) rest

pub same_set : (a b : List (List ℕ)) → IsRising a → IsRising b → ((q : List ℕ) → has a q ≡ has b q) → a ≡ b
same_set [] [] up vp same = refl
same_set [] (y ∷ ys) up vp same = absurd (both_ways _ (sym (same y)) (held_first y ys))
same_set (x ∷ xs) [] up vp same = absurd (both_ways _ (same x) (held_first x xs))
same_set (x ∷ xs) (y ∷ ys) up vp same =
    elim (order x y) as (λ o. order x y ≡ o → x ∷ xs ≡ y ∷ ys) [
      | Less ↦ λ e. absurd (both_ways _ (same x ∙ has-below x (y ∷ ys) (e, below_all x y ys e vp.0)) (held_first x xs))
      | Equal ↦ λ e. first_same x y xs ys (order_same x y e) up vp same (same_set xs ys up.1 vp.1)
      | Greater ↦ λ e. let f : order y x ≡ Less = order_flip x y ∙ ap ordering_reverse e in
          absurd (both_ways _ (sym (same y) ∙ has-below y (x ∷ xs) (f, below_all y x xs f up.0)) (held_first y ys))
    ] refl

-- in the words of `Contains`
or_cases : (a b : Bool) → (a || b) ≡ true → (a ≡ true) ⊎ (b ≡ true)
or_cases true b h = inl refl
or_cases false b h = inr h

or_left : (a b : Bool) → a ≡ true → (a || b) ≡ true
or_left a b h = ap (λ t. t || b) h

or_right : (a b : Bool) → b ≡ true → (a || b) ≡ true
or_right true b h = refl
or_right false b h = h

pub members_put : (key : List ℕ) (keys : List (List ℕ)) (k : List ℕ) → Contains (put key keys) k ↔ ((k ≡ key) ⊎ Contains keys k)
members_put key keys k = (
  λ c. elim (or_cases _ _ (sym (has-put key keys k) ∙ has_from_member _ _ c)) [
    | inl e ↦ inl (same_text k key (sym e))
    | inr h ↦ inr (member_from_has keys k h)
  ],
  λ s. member_from_has _ _ (has-put key keys k ∙ elim s [
    | inl e ↦ or_left _ _ (ap (bytes_eq k) (sym e) ∙ eq_itself k)
    | inr c ↦ or_right (bytes_eq k key) _ (has_from_member keys k c)
  ]),
)

pub members_union : (a b : List (List ℕ)) (k : List ℕ) → Contains (union a b) k ↔ (Contains a k ⊎ Contains b k)
members_union a b k = (
  λ c. elim (or_cases _ _ (sym (has-union a b k) ∙ has_from_member _ _ c)) [
    | inl h ↦ inl (member_from_has a k h)
    | inr h ↦ inr (member_from_has b k h)
  ],
  λ s. member_from_has _ _ (has-union a b k ∙ elim s [
    | inl c ↦ or_left _ _ (has_from_member a k c)
    | inr c ↦ or_right (has a k) _ (has_from_member b k c)
  ]),
)

-- a test of keys, and what it says of each
pub all_hold : (p : List ℕ → Bool) (P : List ℕ → Type 0) → ((x : List ℕ) → p x ≡ true → P x) → (keys : List (List ℕ)) → list_all p keys ≡ true → All P keys
all_hold p P gives [] h k d lt = absurd (omega arith)
all_hold p P gives (x ∷ xs) h zero d lt = let both = and_parts (p x) (list_all p xs) h in gives x both.0
all_hold p P gives (x ∷ xs) h (suc k) d lt = let both = and_parts (p x) (list_all p xs) h in all_hold p P gives xs both.1 k d (omega arith)

pub all_pass : (p : List ℕ → Bool) (P : List ℕ → Type 0) → ((x : List ℕ) → P x → p x ≡ true) → (keys : List (List ℕ)) → All P keys → list_all p keys ≡ true
all_pass p P from [] all = refl
all_pass p P from (x ∷ xs) all = ap (λ b. b && list_all p xs) (from x (all 0 x (omega arith))) ∙ all_pass p P from xs (λ k d lt. all (suc k) d (omega arith))

has_not : (keys : List (List ℕ)) (key : List ℕ) → not (has keys key) ≡ true → ¬ Contains keys key
has_not keys key h c = both_ways (not (has keys key)) (ap not (has_from_member keys key c)) h

not_has : (keys : List (List ℕ)) (key : List ℕ) → ¬ Contains keys key → not (has keys key) ≡ true
not_has keys key h = elim (has keys key) as (λ b. has keys key ≡ b → not b ≡ true) [
  | true ↦ λ e. absurd (h (member_from_has keys key e))
  | false ↦ λ e. refl
] refl

pub holds_each : (a b : List (List ℕ)) (r : Bool) → r ≡ list_all (has a) b → IsTrue r ↔ All (λ key. Contains a key) b
holds_each a b r e = (
  λ t. all_hold (has a) (λ key. Contains a key) (member_from_has a) b (sym e ∙ t),
  λ all. e ∙ all_pass (has a) (λ key. Contains a key) (has_from_member a) b all,
)

pub holds_no : (a b : List (List ℕ)) (r : Bool) → r ≡ list_all (λ key. not (has a key)) b → IsTrue r ↔ All (λ key. ¬ Contains a key) b
holds_no a b r e = (
  λ t. all_hold (λ key. not (has a key)) (λ key. ¬ Contains a key) (has_not a) b (sym e ∙ t),
  λ all. e ∙ all_pass (λ key. not (has a key)) (λ key. ¬ Contains a key) (not_has a) b all,
)

-- filtered sets
pub all_filter : (P : List ℕ → Type 0) (p : List ℕ → Bool) (keys : List (List ℕ)) → AllKeys P keys → AllKeys P (filter p keys)
all_filter P p [] all = tt
all_filter P p (x ∷ xs) all = elim (p x) as (λ b. AllKeys P (cond b (x ∷ filter p xs) (filter p xs))) [
  | true ↦
      (all.0, all_filter P p xs all.1)
  | false ↦ all_filter P p xs all.1
]

pub rising_filter : (p : List ℕ → Bool) (keys : List (List ℕ)) → IsRising keys → IsRising (filter p keys)
rising_filter p [] up = tt
rising_filter p (x ∷ xs) up =
    elim (p x) as (λ b. IsRising (cond b (x ∷ filter p xs) (filter p xs))) [
      | true ↦ (all_filter (λ later. order x later ≡ Less) p xs up.0, rising_filter p xs up.1)
      | false ↦ rising_filter p xs up.1
    ]

and-false : (b : Bool) → (b && false) ≡ false
and-false true = refl
and-false false = refl

has_filter_cases : (q x : List ℕ) (rest kept : Bool) (p : List ℕ → Bool) (t e : Bool) → p x ≡ t → bytes_eq q x ≡ e → kept ≡ (rest && p q) →
    cond t (e || kept) kept ≡ ((e || rest) && p q)
has_filter_cases q x rest kept p true true px qx k = sym (ap p (same_text q x (sym qx)) ∙ px)
has_filter_cases q x rest kept p true false px qx k = k
has_filter_cases q x rest kept p false true px qx k =
    let no : p q ≡ false = ap p (same_text q x (sym qx)) ∙ px in
    k ∙ ap (λ b. rest && b) no ∙ and-false rest ∙ sym no
has_filter_cases q x rest kept p false false px qx k = k

has_of_cond : (b : Bool) (x : List ℕ) (xs : List (List ℕ)) (q : List ℕ) → has (cond b (x ∷ xs) xs) q ≡ cond b (bytes_eq q x || has xs q) (has xs q)
has_of_cond true x xs q = refl
has_of_cond false x xs q = refl

pub has-filter : (p : List ℕ → Bool) (keys : List (List ℕ)) (q : List ℕ) → has (filter p keys) q ≡ (has keys q && p q)
has-filter p [] q = refl
has-filter p (x ∷ xs) q = has_of_cond (p x) x (filter p xs) q
    ∙ has_filter_cases q x (has xs q) (has (filter p xs) q) p (p x) (bytes_eq q x) refl refl (has-filter p xs q)

pub members_minus : (a b : List (List ℕ)) (k : List ℕ) → Contains (minus a b) k ↔ (Contains a k × (¬ Contains b k))
members_minus a b k = (
  λ c. let both = and_parts (has a k) (not (has b k)) (sym (has-filter (λ key. not (has b key)) a k) ∙ has_from_member _ _ c) in
      (member_from_has a k both.0, has_not b k both.1),
  λ s. member_from_has _ _ (has-filter (λ key. not (has b key)) a k ∙ ap (λ t. t && not (has b k)) (has_from_member a k s.0) ∙ not_has b k s.1),
)

-- what a binary search answers of a set
pub found_is_member : (keys : List (List ℕ)) (key : List ℕ) (at : ℕ) → at < length keys → HoldsAt (λ y. order y key ≡ Equal) keys at → has keys key ≡ true
found_is_member keys key at lt held = has_from_member keys key (at, lt, order_same _ key (held key))

rising_at : (x : List ℕ) (xs : List (List ℕ)) → AllKeys (λ later. order x later ≡ Less) xs → (k : ℕ) (d : List ℕ) → k < length xs →
    order x (get_or xs k d) ≡ Less
rising_at x [] all k d lt = absurd (omega arith)
rising_at x (y ∷ ys) all zero d lt = all.0
rising_at x (y ∷ ys) all (suc k) d lt = rising_at x ys all.1 k d (omega arith)

rising_steps : (keys : List (List ℕ)) → IsRising keys → (k : ℕ) (d : List ℕ) → suc k < length keys → order (get_or keys k d) (get_or keys (suc k) d) ≡ Less
rising_steps [] up k d lt = absurd (omega arith)
rising_steps (x ∷ xs) up zero d lt = rising_at x xs up.0 0 d (omega arith)
rising_steps (x ∷ xs) up (suc k) d lt = rising_steps xs up.1 k d (omega arith)

sorted : (keys : List (List ℕ)) → IsRising keys → IsSortedBy (λ a b. is_lt (order a b)) keys
sorted keys up k d low lt =
    rw add-one (ap is_lt (order_flip (get_or keys k d) (get_or keys (suc k) d) ∙ ap ordering_reverse (rising_steps keys up k d (omega arith))))

pub searchable : (keys : List (List ℕ)) (key : List ℕ) → IsRising keys → IsNonDecreasingBy (λ y. ordering_index (order y key)) keys
searchable keys key up = searchable_from_sorted nat_list_cmp_total (λ x. x) keys key (sorted keys up)

not_itself : (x key : List ℕ) (o : Ordering) → x ≡ key → order x key ≡ o → o ≡ Equal
not_itself x key o same e = sym e ∙ ap (λ y. order y key) same ∙ order_itself key

-- the key is in neither part
pub gap_is_absent : (keys : List (List ℕ)) (key : List ℕ) (at : ℕ) → AllWithin (λ y. order y key ≡ Less) keys 0 at →
    AllWithin (λ y. order y key ≡ Greater) keys at (length keys) → has keys key ≡ false
gap_is_absent keys key at low high =
    elim (has keys key) as (λ b. has keys key ≡ b → b ≡ false) [
      | true ↦ λ e. let c = member_from_has keys key e in elim (cases_lt c.0 at) [
        | inl below ↦ let e : Less ≡ Equal = not_itself _ key Less c.2 (low c.0 key (omega arith) below) in (cc)
        | inr above ↦ let e : Greater ≡ Equal = not_itself _ key Greater c.2 (high c.0 key above c.1) in (cc)
      ]
      | false ↦ λ e. refl
    ] refl

pub place_found : (keys : List (List ℕ)) (key : List ℕ) (r : Result ℕ ℕ) → IsSearchInRange r (length keys) →
    IsBinarySearchResult (λ y. order y key) keys r → OnOk r (has keys key ≡ true)
place_found keys key (Ok at) within held = found_is_member keys key at within held
place_found keys key (Err at) within parts = tt

pub place_gap : (keys : List (List ℕ)) (key : List ℕ) (r : Result ℕ ℕ) → IsRising keys → IsSearchInRange r (length keys) →
    IsBinarySearchResult (λ y. order y key) keys r → IfErr r (IsGap keys key)
place_gap keys key (Ok at) up within held = tt
place_gap keys key (Err at) up within parts =
    let gap = parts (searchable keys key up) in
    record { absent = gap_is_absent keys key at gap.0 gap.1; within = within; goes = put_between key keys at within gap.0 gap.1 }

-- whether a key is there, by where it is
pub is_member : (keys : List (List ℕ)) (key : List ℕ) (r : Bool) → r ≡ has keys key → IsTrue r ↔ Contains keys key
is_member keys key r e = (λ t. member_from_has keys key (sym e ∙ t), λ c. e ∙ has_from_member keys key c)

pub set_minus : (a b : List (List ℕ)) → IsFlagSet a → IsFlagSet (minus a b)
set_minus a b set = record { rising = rising_filter _ a set.rising; flags = all_filter IsKey _ a set.flags }

-- lists that are tested key by key
lists_same : (a b : List (List ℕ)) → pointwise bytes_eq a b ≡ true → a ≡ b
lists_same [] [] h = refl
lists_same [] (y ∷ ys) h = cc
lists_same (x ∷ xs) [] h = cc
lists_same (x ∷ xs) (y ∷ ys) h =
    let both = and_parts (bytes_eq x y) (pointwise bytes_eq xs ys) h in
    ap (λ k. k ∷ xs) (same_text x y (sym both.0)) ∙ ap (λ l. y ∷ l) (lists_same xs ys both.1)

lists_itself : (a b : List (List ℕ)) → a ≡ b → pointwise bytes_eq a b ≡ true
lists_itself a b e = ap (pointwise bytes_eq a) (sym e) ∙ (lists_equiv nat_list_eq_equiv).refl a

pub is_same : (a b : List (List ℕ)) (r : Bool) → r ≡ pointwise bytes_eq a b → IsTrue r ↔ (a ≡ b)
is_same a b r e = (λ t. lists_same a b (sym e ∙ t), λ s. e ∙ lists_itself a b s)

members_same : (a b : List (List ℕ)) → IsRising a → IsRising b → ((k : List ℕ) → Contains a k ↔ Contains b k) → a ≡ b
members_same a b up vp each =
    same_set a b up vp (λ q. both_ways_same (has a q) (has b q)
    (λ h. has_from_member b q ((each q).0 (member_from_has a q h)))
    (λ h. has_from_member a q ((each q).1 (member_from_has b q h))))

pub has_same_members : (a b : List (List ℕ)) (r : Bool) → IsRising a → IsRising b → r ≡ pointwise bytes_eq a b →
    IsTrue r ↔ ((k : List ℕ) → Contains a k ↔ Contains b k)
has_same_members a b r up vp e = (
  λ t k. let s : a ≡ b = (is_same a b r e).0 t in subst (λ l. Contains a k ↔ Contains l k) s ((λ c. c), (λ c. c)),
  λ each. (is_same a b r e).1 (members_same a b up vp each),
)
