-- The first key of a union of two rising runs.
use Rattle.std.proofs.Common.{◌≡◌, ℕ, zero, suc, List, [], ◌∷◌, ◌++◌, drop, None, Some, append_assoc, refl, sym, ap, ◌∙◌, subst, arith}
use Rattle.std.specs.List.{slice_get}
use Rattle.std.specs.Ordering.{MatchOrdering, ordering_reverse}
use Rattle.std.specs.declared.cmp.Ordering.{Ordering}
use Rattle.std.specs.declared.cmp.Ordering.TheVariants.{Less, Equal, Greater}
use Rattle.flag_set.specs.FlagSet.{order, IsRising, union}
use Rattle.flag_set.specs.KeyRuns.{IsFirst, IsLower}
use Rattle.flag_set.proofs.Order.{below_all, order_flip, order_same, union_both, union_left, union_nil, union_right}

same_first : (left right : List (List ℕ)) (k k' : List ℕ) (a a' b b' : ℕ) → k' ≡ k → a' ≡ a → b' ≡ b → IsFirst left right k a b → IsFirst left right k' a' b'
same_first left right k k' a a' b b' e f g h =
    subst (λ x. IsFirst left right x a' b') (sym e) (subst (λ n. IsFirst left right k n b') (sym f) (subst (λ n. IsFirst left right k a n) (sym g) h))

pub first_left : (left right : List (List ℕ)) (key : List ℕ) → IsRising left → Some key ≡ slice_get left 0 → None ≡ slice_get right 0 →
    IsFirst left right key 1 0
first_left [] right key up e f = cc
first_left (x ∷ xs) [] key up e f =
    let same : key ≡ x = cc in
    same_first (x ∷ xs) [] x key 1 1 0 0 same refl refl
    (record {
      comes_first = union_nil (x ∷ xs) up ∙ ap (λ l. x ∷ l) (sym (union_nil xs up.1));
      left_within = omega arith;
      right_within =
          omega arith;
      some = omega arith;
    })
first_left (x ∷ xs) (y ∷ ys) key up e f = cc

pub first_right : (left right : List (List ℕ)) (key : List ℕ) → None ≡ slice_get left 0 → Some key ≡ slice_get right 0 → IsFirst left right key 0 1
first_right (x ∷ xs) right key e f = cc
first_right [] [] key e f = cc
first_right [] (y ∷ ys) key e f =
    let same : key ≡ y = cc in
    same_first [] (y ∷ ys) y key 0 0 1 1 same refl refl
    (record { comes_first = refl; left_within = omega arith; right_within = omega arith; some = omega arith })

lower_first : (o : Ordering) (x : List ℕ) (xs : List (List ℕ)) (y : List ℕ) (ys : List (List ℕ)) (lower : List ℕ) (lefts rights : ℕ) →
    order x y ≡ o → IsRising (x ∷ xs) → IsRising (y ∷ ys) → MatchOrdering o
    ((lower ≡ x) × (lefts ≡ 1) × (rights ≡ 0))
    ((lower ≡ x) × (lefts ≡ 1) × (rights ≡ 1))
    ((lower ≡ y) × (lefts ≡ 0) × (rights ≡ 1)) → IsFirst (x ∷ xs) (y ∷ ys) lower lefts rights
lower_first Less x xs y ys lower lefts rights e up vp is =
    same_first (x ∷ xs) (y ∷ ys) x lower 1 lefts 0 rights is.0 is.1 is.2
    (record {
      comes_first = union_left x xs (y ∷ ys) up.0 (e, below_all x y ys e vp.0);
      left_within = omega arith;
      right_within =
          omega arith;
      some = omega arith;
    })
lower_first Equal x xs y ys lower lefts rights e up vp is =
    same_first (x ∷ xs) (y ∷ ys) x lower 1 lefts 1 rights is.0 is.1 is.2
    (record {
      comes_first = ap (λ k. union (x ∷ xs) (k ∷ ys)) (sym (order_same x y e)) ∙ union_both x xs ys up.0;
      left_within = omega arith;
      right_within = omega arith;
      some = omega arith;
    })
lower_first Greater x xs y ys lower lefts rights e up vp is =
    let f : order y x ≡ Less = order_flip x y ∙ ap ordering_reverse e in
    same_first (x ∷ xs) (y ∷ ys) y lower 0 lefts 1 rights is.0 is.1 is.2
    (record { comes_first = union_right (x ∷ xs) y ys (f, below_all y x xs f up.0); left_within = omega arith; right_within = omega arith; some = omega arith })

pub first_both : (left right : List (List ℕ)) (key other lower : List ℕ) (lefts rights : ℕ) → IsRising left → IsRising right →
    Some key ≡ slice_get left 0 → Some other ≡ slice_get right 0 → IsLower key other lower lefts rights →
    IsFirst left right lower lefts rights
first_both [] right key other lower lefts rights up vp e f is = cc
first_both (x ∷ xs) [] key other lower lefts rights up vp e f is = cc
first_both (x ∷ xs) (y ∷ ys) key other lower lefts rights up vp e f is =
    let s : key ≡ x = cc in
    let t : other ≡ y = cc in
    lower_first (order x y) x xs y ys lower lefts rights refl up vp
    (subst (λ k. IsLower k y lower lefts rights) s (subst (λ k. IsLower key k lower lefts rights) t is))

pub rising_drop : (n : ℕ) (keys : List (List ℕ)) → IsRising keys → IsRising (drop n keys)
rising_drop zero keys up = up
rising_drop (suc n) [] up = tt
rising_drop (suc n) (x ∷ xs) up = rising_drop n xs up.1

-- one step of a merge
pub merge_step : (keys left right all : List (List ℕ)) (key copy : List ℕ) (a b : ℕ) (keys' left' right' : List (List ℕ)) →
    IsFirst left right key a b → copy ≡ key → keys' ≡ keys ++ copy ∷ [] → left' ≡ drop a left → right' ≡ drop b right →
    keys ++ union left right ≡ all → keys' ++ union left' right' ≡ all
merge_step keys left right all key copy a b keys' left' right' first e pushed l r whole =
    ap (λ ks. ks ++ union left' right') pushed
    ∙ append_assoc keys (copy ∷ []) (union left' right')
    ∙ ap (λ k. keys ++ k ∷ union left' right') e
    ∙ ap (λ ls. keys ++ key ∷ union ls right') l
    ∙ ap (λ rs. keys ++ key ∷ union (drop a left) rs) r
    ∙ ap (λ u. keys ++ u) (sym first.comes_first)
    ∙ whole
