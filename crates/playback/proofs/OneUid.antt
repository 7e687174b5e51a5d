-- The one UID of a set.
use Rattle.std.proofs.Common.{List, None, Option, Some, [], ap, arith, inl, inr, refl, sym, ℕ, ◌≡◌, ◌∙◌, ◌∷◌}
use Rattle.std.proofs.lemmas.Bool.{cond-true, cond_both, eq-eqb, eqb-true}
use Rattle.std.specs.Prelude.{IfNone, IfSome, ◌==◌}
use Rattle.playback.specs.Replying.{one_of}
use Rattle.uid_sets.proofs.Queries.{only_length}
use Rattle.uid_sets.specs.Uid.{IsWithin}
use Rattle.uid_sets.specs.UidSet.{IsCanonical, IsOnly, Member}
use Rattle.uid_sets.specs.declared.uid.UidRange.{UidRange}

between : {low high : ℕ} (uid : ℕ) → IsWithin low high uid → low ≡ high → uid ≡ low
between uid within same = omega (arith, within.above, within.below, same)

in_one : (range : UidRange) (uid : ℕ) → Member (range ∷ []) uid → range.low ≡ range.high → uid ≡ range.low
in_one range uid (inl here) same = between uid here same
in_one range uid (inr later) same = absurd later

one_range : (range : UidRange) (found : Option ℕ) → IsCanonical (range ∷ []) → IfSome found (IsOnly (range ∷ [])) →
    IfNone found ((uid : ℕ) → ¬ IsOnly (range ∷ []) uid) → found ≡ one_of (range ∷ [])
one_range range (Some uid) rises only none =
    let low = (only range.low).0 (inl (record { above = omega arith; below = rises.0.ordered })) in
    let high = (only range.high).0 (inl (record { above = rises.0.ordered; below = omega arith })) in
    ap (λ (x : ℕ). Some x) (sym low)
    ∙ sym (cond-true (range.low == range.high) (Some range.low) None (eq-eqb range.low range.high (low ∙ sym high)))
one_range range None rises only none =
    cond_both (range.low == range.high) (Some range.low) None (λ (x : Option ℕ). None ≡ x)
    (λ same. absurd (none range.low (λ other. (
      λ member. in_one range other member (eqb-true range.low range.high same),
      λ is. inl (record { above = omega (arith, is); below = omega (arith, is, rises.0.ordered) }),
    ))))
    (λ apart. refl)

-- the one UID that a set tells is that of its one range
pub one_is : (ranges : List UidRange) (found : Option ℕ) → IsCanonical ranges → IfSome found (IsOnly ranges) →
    IfNone found ((uid : ℕ) → ¬ IsOnly ranges uid) → found ≡ one_of ranges
one_is [] (Some uid) rises only none = absurd ((only uid).1 refl)
one_is [] None rises only none = refl
one_is (range ∷ []) found rises only none = one_range range found rises only none
one_is (range ∷ next ∷ ranges) (Some uid) rises only none =
    absurd (omega (arith, only_length (range ∷ next ∷ ranges) uid rises only))
one_is (range ∷ next ∷ ranges) None rises only none = refl
