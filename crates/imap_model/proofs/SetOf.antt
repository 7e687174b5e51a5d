-- The set of the UIDs in a list has those UIDs and no other.
use Rattle.std.proofs.Common.{◌≡◌, ◌⊎◌, inl, inr, ℕ, zero, suc, ◌+◌, ◌<◌, ◌≤◌, cond, eqb, List, [], ◌∷◌, sym, ◌∙◌, subst, arith}
use Rattle.std.specs.Prelude.{nat_lt, Contains}
use Rattle.std.specs.List.{AllByRecursion}
use Rattle.std.proofs.lemmas.Bool.{cond_both, eqb-true}
use Rattle.std.proofs.Math.Nat.{eq-or-lt_of_le}
use Rattle.uid_sets.specs.Uid.{IsWithin}
use Rattle.uid_sets.specs.UidSet.{Member}
use Rattle.uid_sets.specs.declared.uid.UidRange.{UidRange}
use Rattle.imap_model.specs.UidLists.{put_uid, in_order, in_front, ranges_of, set_of}

-- the UID is one of the list
abbrev pub Among : ℕ → List ℕ → Type 0
Among v [] = ⊥
Among v (u ∷ us) = (v ≡ u) ⊎ Among v us

ordered_front : (u : ℕ) (rs : List UidRange) → AllByRecursion (λ (r : UidRange). r.low ≤ r.high) rs →
    AllByRecursion (λ (r : UidRange). r.low ≤ r.high) (in_front u rs)
ordered_front u [] a = (omega arith, tt)
ordered_front u (r ∷ rs) a =
    cond_both (eqb r.low (u + 1)) (record { low = u; high = r.high } ∷ rs) (record { low = u; high = u } ∷ r ∷ rs)
    (λ (l : List UidRange). AllByRecursion (λ (q : UidRange). q.low ≤ q.high) l)
    (λ t. let e : r.low ≡ u + 1 = eqb-true r.low (u + 1) t in let first : r.low ≤ r.high = a.0 in (omega arith, a.1))
    (λ _. (omega arith, a))

ordered_ranges : (us : List ℕ) → AllByRecursion (λ (r : UidRange). r.low ≤ r.high) (ranges_of us)
ordered_ranges [] = tt
ordered_ranges (u ∷ us) = ordered_front u (ranges_of us) (ordered_ranges us)

front_first : (u : ℕ) (rs : List UidRange) → AllByRecursion (λ (r : UidRange). r.low ≤ r.high) rs → Member (in_front u rs) u
front_first u [] a = inl (record { above = omega arith; below = omega arith })
front_first u (r ∷ rs) a =
    cond_both (eqb r.low (u + 1)) (record { low = u; high = r.high } ∷ rs) (record { low = u; high = u } ∷ r ∷ rs) (λ (l : List UidRange). Member l u)
    (λ t. let e : r.low ≡ u + 1 = eqb-true r.low (u + 1) t in let first : r.low ≤ r.high = a.0 in inl (record { above = omega arith; below = omega arith }))
    (λ _. inl (record { above = omega arith; below = omega arith }))

longer : (u v : ℕ) (r : UidRange) (rs : List UidRange) → r.low ≡ u + 1 → Member (r ∷ rs) v → Member (record { low = u; high = r.high } ∷ rs) v
longer u v r rs e (inl w) = let a : r.low ≤ v = w.above in inl (record { above = omega arith; below = w.below })
longer u v r rs e (inr m) = inr m

front_later : (u v : ℕ) (rs : List UidRange) → Member rs v → Member (in_front u rs) v
front_later u v [] m = absurd m
front_later u v (r ∷ rs) m =
    cond_both (eqb r.low (u + 1)) (record { low = u; high = r.high } ∷ rs) (record { low = u; high = u } ∷ r ∷ rs) (λ (l : List UidRange). Member l v)
    (λ t. longer u v r rs (eqb-true r.low (u + 1) t) m)
    (λ _. inr m)

shorter : (u v : ℕ) (r : UidRange) (rs : List UidRange) → r.low ≡ u + 1 → (u ≡ v) ⊎ (u < v) →
    Member (record { low = u; high = r.high } ∷ rs) v → (v ≡ u) ⊎ Member (r ∷ rs) v
shorter u v r rs e (inl s) m = inl (sym s)
shorter u v r rs e (inr l) (inl w) = inr (inl (record { above = omega arith; below = w.below }))
shorter u v r rs e (inr l) (inr m) = inr (inr m)

within_one : (u v : ℕ) → IsWithin u u v → v ≡ u
within_one u v w = let a : u ≤ v = w.above in let b : v ≤ u = w.below in omega arith

parted : (u v : ℕ) (r : UidRange) (rs : List UidRange) → r.low ≡ u + 1 → Member (record { low = u; high = r.high } ∷ rs) v → (v ≡ u) ⊎ Member (r ∷ rs) v
parted u v r rs e (inl w) = shorter u v r rs e (eq-or-lt_of_le w.above) (inl w)
parted u v r rs e (inr m) = inr (inr m)

alone : (u v : ℕ) (rs : List UidRange) → Member (record { low = u; high = u } ∷ rs) v → (v ≡ u) ⊎ Member rs v
alone u v rs (inl w) = inl (within_one u v w)
alone u v rs (inr m) = inr m

from_front : (u v : ℕ) (rs : List UidRange) → Member (in_front u rs) v → (v ≡ u) ⊎ Member rs v
from_front u v [] = λ m. alone u v [] m
from_front u v (r ∷ rs) =
    cond_both (eqb r.low (u + 1)) (record { low = u; high = r.high } ∷ rs) (record { low = u; high = u } ∷ r ∷ rs)
    (λ (l : List UidRange). Member l v → (v ≡ u) ⊎ Member (r ∷ rs) v)
    (λ t m. parted u v r rs (eqb-true r.low (u + 1) t) m)
    (λ _ m. alone u v (r ∷ rs) m)

into_ranges : (v : ℕ) (us : List ℕ) → Among v us → Member (ranges_of us) v
into_ranges v [] a = absurd a
into_ranges v (u ∷ us) (inl e) = subst (λ (k : ℕ). Member (in_front u (ranges_of us)) k) (sym e) (front_first u (ranges_of us) (ordered_ranges us))
into_ranges v (u ∷ us) (inr a) = front_later u v (ranges_of us) (into_ranges v us a)

one_or : (v u : ℕ) (us : List ℕ) (rs : List UidRange) → (Member rs v → Among v us) → (v ≡ u) ⊎ Member rs v → (v ≡ u) ⊎ Among v us
one_or v u us rs f (inl e) = inl e
one_or v u us rs f (inr m) = inr (f m)

from_ranges : (v : ℕ) (us : List ℕ) → Member (ranges_of us) v → Among v us
from_ranges v [] m = absurd m
from_ranges v (u ∷ us) m = one_or v u us (ranges_of us) (from_ranges v us) (from_front u v (ranges_of us) m)

-- into the order and out of it
skip : (v u n : ℕ) (us vs : List ℕ) → ((v ≡ u) ⊎ Among v us → Among v vs) → (v ≡ u) ⊎ Among v (n ∷ us) → Among v (n ∷ vs)
skip v u n us vs f (inl e) = inr (f (inl e))
skip v u n us vs f (inr (inl e)) = inl e
skip v u n us vs f (inr (inr a)) = inr (f (inr a))

there_already : (v u n : ℕ) (us : List ℕ) → u ≡ n → (v ≡ u) ⊎ Among v (n ∷ us) → Among v (n ∷ us)
there_already v u n us e (inl s) = inl (s ∙ e)
there_already v u n us e (inr a) = a

into_put : (v u : ℕ) (us : List ℕ) → (v ≡ u) ⊎ Among v us → Among v (put_uid u us)
into_put v u [] a = a
into_put v u (n ∷ us) a =
    cond_both (nat_lt u n) (u ∷ n ∷ us) (cond (eqb u n) (n ∷ us) (n ∷ put_uid u us)) (λ (l : List ℕ). Among v l)
    (λ _. a)
    (λ _. cond_both (eqb u n) (n ∷ us) (n ∷ put_uid u us) (λ (l : List ℕ). Among v l)
    (λ t. there_already v u n us (eqb-true u n t) a)
    (λ _. skip v u n us (put_uid u us) (into_put v u us) a))

unskip : (v u n : ℕ) (us vs : List ℕ) → (Among v vs → (v ≡ u) ⊎ Among v us) → Among v (n ∷ vs) → (v ≡ u) ⊎ Among v (n ∷ us)
unskip v u n us vs f (inl e) = inr (inl e)
unskip v u n us vs f (inr a) = one_up v u n us (f a)
  where
    one_up : (v u n : ℕ) (us : List ℕ) → (v ≡ u) ⊎ Among v us → (v ≡ u) ⊎ Among v (n ∷ us)
    one_up v u n us (inl e) = inl e
    one_up v u n us (inr a) = inr (inr a)

from_put : (v u : ℕ) (us : List ℕ) → Among v (put_uid u us) → (v ≡ u) ⊎ Among v us
from_put v u [] = λ a. a
from_put v u (n ∷ us) =
    cond_both (nat_lt u n) (u ∷ n ∷ us) (cond (eqb u n) (n ∷ us) (n ∷ put_uid u us)) (λ (l : List ℕ). Among v l → (v ≡ u) ⊎ Among v (n ∷ us))
    (λ _ a. a)
    (λ _. cond_both (eqb u n) (n ∷ us) (n ∷ put_uid u us) (λ (l : List ℕ). Among v l → (v ≡ u) ⊎ Among v (n ∷ us))
    (λ _ a. inr a)
    (λ _ a. unskip v u n us (put_uid u us) (from_put v u us) a))

either : (v u : ℕ) (us vs : List ℕ) → (Among v us → Among v vs) → (v ≡ u) ⊎ Among v us → (v ≡ u) ⊎ Among v vs
either v u us vs f (inl e) = inl e
either v u us vs f (inr a) = inr (f a)

into_order : (v : ℕ) (us : List ℕ) → Among v us → Among v (in_order us)
into_order v [] a = absurd a
into_order v (u ∷ us) a = into_put v u (in_order us) (either v u us (in_order us) (into_order v us) a)

from_order : (v : ℕ) (us : List ℕ) → Among v (in_order us) → Among v us
from_order v [] a = absurd a
from_order v (u ∷ us) a = either v u (in_order us) us (from_order v us) (from_put v u (in_order us) a)

pub into_set : (v : ℕ) (us : List ℕ) → Among v us → Member (set_of us) v
into_set v us a = into_ranges v (in_order us) (into_order v us a)

pub from_set : (v : ℕ) (us : List ℕ) → Member (set_of us) v → Among v us
from_set v us m = from_order v us (from_ranges v (in_order us) m)

-- the same, of an element of the list
one_step : (u v : ℕ) (us : List ℕ) → (Contains us v → Among v us) → Contains (u ∷ us) v → Among v (u ∷ us)
one_step u v us f (zero, l, e) = inl (sym e)
one_step u v us f (suc k, l, e) = inr (f (k, omega (arith, l), e))

pub into_among : (v : ℕ) (us : List ℕ) → Contains us v → Among v us
into_among v [] c = let short : c.0 < 0 = c.1 in absurd (omega arith)
into_among v (u ∷ us) c = one_step u v us (into_among v us) c
