-- The set of UIDs of 32 bits is the one list of its ranges.
use Rattle.std.proofs.Common.{◌≡◌, ◌⊎◌, inl, inr, ℕ, ◌+◌, ◌<◌, ◌≤◌, ◌^◌, ◌↔◌, cond, eqb, List, [], ◌∷◌, ◌++◌, take, length, get_or, sym}
use Rattle.std.proofs.Common.{◌∙◌, ap, subst, arith, add-one}
use Rattle.std.specs.Prelude.{nat_lt}
use Rattle.std.proofs.lemmas.Bool.{cond_both, eqb-false, ltb-true, ltb-false}
use Rattle.std.proofs.Math.Seq.{take-suc}
use Rattle.uid_sets.specs.UidSet.{Member, RisesAbove, IsCanonical}
use Rattle.uid_sets.specs.declared.uid.UidRange.{UidRange}
use Rattle.imap_model.specs.UidLists.{put_uid, in_order, in_front, ranges_of, set_of}
use Rattle.imap_model.proofs.SetOf.{Among, into_set, from_set}

-- UIDs of 32 bits that rise above a floor
abbrev pub Rising : ℕ → List ℕ → Type 0
Rising floor [] = Unit {0}
Rising floor (u ∷ us) = (floor < u) × ((u < 2 ^ 32) × Rising u us)

-- UIDs of 32 bits in any order
abbrev pub AreUids : List ℕ → Type 0
AreUids [] = Unit {0}
AreUids (u ∷ us) = ((0 < u) × (u < 2 ^ 32)) × AreUids us

front_rises : (floor u : ℕ) (rs : List UidRange) → floor < u → u < 2 ^ 32 → RisesAbove u rs → RisesAbove floor (in_front u rs)
front_rises floor u [] f b r = (record { above = f; ordered = omega arith; fits = b }, tt)
front_rises floor u (x ∷ rs) f b r =
    let above : u < x.low = r.0.above in let ordered : x.low ≤ x.high = r.0.ordered in
    cond_both (eqb x.low (u + 1)) (record { low = u; high = x.high } ∷ rs) (record { low = u; high = u } ∷ x ∷ rs) (RisesAbove floor)
    (λ t. (record { above = f; ordered = omega arith; fits = r.0.fits }, r.1))
    (λ d. let apart : x.low ≡ u + 1 → ⊥ = eqb-false x.low (u + 1) d in
    (record { above = f; ordered = omega arith; fits = b }, (record { above = omega (arith, apart); ordered = ordered; fits = r.0.fits }, r.1)))

ranges_rise : (floor : ℕ) (us : List ℕ) → Rising floor us → RisesAbove floor (ranges_of us)
ranges_rise floor [] r = tt
ranges_rise floor (u ∷ us) r = front_rises floor u (ranges_of us) r.0 r.1.0 (ranges_rise u us r.1.1)

put_rises : (floor u : ℕ) (us : List ℕ) → floor < u → u < 2 ^ 32 → Rising floor us → Rising floor (put_uid u us)
put_rises floor u [] f b r = (f, (b, tt))
put_rises floor u (v ∷ us) f b r =
    cond_both (nat_lt u v) (u ∷ v ∷ us) (cond (eqb u v) (v ∷ us) (v ∷ put_uid u us)) (Rising floor)
    (λ t. (f, (b, (ltb-true u v t, r.1))))
    (λ d. let least : v ≤ u = ltb-false u v d in
    cond_both (eqb u v) (v ∷ us) (v ∷ put_uid u us) (Rising floor)
    (λ _. r)
    (λ e. let apart : u ≡ v → ⊥ = eqb-false u v e in (r.0, (r.1.0, put_rises v u us (omega (arith, apart)) b r.1.1))))

order_rises : (us : List ℕ) → AreUids us → Rising 0 (in_order us)
order_rises [] a = tt
order_rises (u ∷ us) a = put_rises 0 u (in_order us) a.0.0 a.0.1 (order_rises us a.1)

pub set_canonical : (us : List ℕ) → AreUids us → IsCanonical (set_of us)
set_canonical us a = ranges_rise 0 (in_order us) (order_rises us a)

-- one UID more at the end
snoc_uids : (us : List ℕ) (x : ℕ) → (0 < x) × (x < 2 ^ 32) → AreUids us → AreUids (us ++ x ∷ [])
snoc_uids [] x b a = (b, tt)
snoc_uids (u ∷ us) x b a = (a.0, snoc_uids us x b a.1)

into_snoc : (v x : ℕ) (us : List ℕ) → Among v us ⊎ (v ≡ x) → Among v (us ++ x ∷ [])
into_snoc v x [] (inl a) = absurd a
into_snoc v x [] (inr e) = inl e
into_snoc v x (u ∷ us) (inl (inl e)) = inl e
into_snoc v x (u ∷ us) (inl (inr a)) = inr (into_snoc v x us (inl a))
into_snoc v x (u ∷ us) (inr e) = inr (into_snoc v x us (inr e))

up : (v u x : ℕ) (us : List ℕ) → Among v us ⊎ (v ≡ x) → Among v (u ∷ us) ⊎ (v ≡ x)
up v u x us (inl a) = inl (inr a)
up v u x us (inr e) = inr e

from_snoc : (v x : ℕ) (us : List ℕ) → Among v (us ++ x ∷ []) → Among v us ⊎ (v ≡ x)
from_snoc v x [] (inl e) = inr e
from_snoc v x [] (inr a) = absurd a
from_snoc v x (u ∷ us) (inl e) = inl (inl e)
from_snoc v x (u ∷ us) (inr a) = up v u x us (from_snoc v x us a)

one_more : (i : ℕ) (us : List ℕ) (x : ℕ) → i < length us → x ≡ get_or us i x → take (i + 1) us ≡ take i us ++ x ∷ []
one_more i us x l is = ap (λ (n : ℕ). take n us) (add-one i) ∙ take-suc us i x l ∙ ap (λ (y : ℕ). take i us ++ y ∷ []) (sym is)

pub more_uids : (i : ℕ) (us : List ℕ) (x : ℕ) → i < length us → x ≡ get_or us i x → (0 < x) × (x < 2 ^ 32) → AreUids (take i us) → AreUids (take (i + 1) us)
more_uids i us x l is b a = subst AreUids (sym (one_more i us x l is)) (snoc_uids (take i us) x b a)

left_of : (v x : ℕ) (us : List ℕ) (old : List UidRange) → (Member old v → Among v us) → Member old v ⊎ (v ≡ x) → Among v us ⊎ (v ≡ x)
left_of v x us old f (inl m) = inl (f m)
left_of v x us old f (inr e) = inr e

right_of : (v x : ℕ) (us : List ℕ) (old : List UidRange) → (Among v us → Member old v) → Among v us ⊎ (v ≡ x) → Member old v ⊎ (v ≡ x)
right_of v x us old f (inl m) = inl (f m)
right_of v x us old f (inr e) = inr e

pub more_members : (i : ℕ) (us : List ℕ) (x : ℕ) (old new : List UidRange) → i < length us → x ≡ get_or us i x →
    ((v : ℕ) → Member new v ↔ (Member old v ⊎ (v ≡ x))) →
    ((v : ℕ) → Member old v ↔ Among v (take i us)) → (v : ℕ) → Member new v ↔ Among v (take (i + 1) us)
more_members i us x old new l is added same v = (
  λ m. subst (Among v) (sym (one_more i us x l is)) (into_snoc v x (take i us) (left_of v x (take i us) old (same v).0 ((added v).0 m))),
  λ a. (added v).1 (right_of v x (take i us) old (same v).1 (from_snoc v x (take i us) (subst (Among v) (one_more i us x l is) a))),
)

pub is_set_of : (us : List ℕ) (set : List UidRange) → ((left right : List UidRange) → IsCanonical left → IsCanonical right →
    ((uid : ℕ) → Member left uid ↔ Member right uid) → left ≡ right) →
    IsCanonical set → AreUids us → ((v : ℕ) → Member set v ↔ Among v us) → set ≡ set_of us
is_set_of us set one canonical uids members =
    one set (set_of us) canonical (set_canonical us uids) (λ v. (λ m. into_set v us ((members v).0 m), λ m. (members v).1 (from_set v us m)))
