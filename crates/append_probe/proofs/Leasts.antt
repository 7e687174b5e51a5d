-- The least member of a set.
use Rattle.std.proofs.Common.{◌≡◌, inl, inr, ℕ, ◌+◌, ◌<◌, ◌≤◌, List, [], ◌∷◌, Some, subst, arith}
use Rattle.std.specs.Prelude.{slice_get}
use Rattle.std.proofs.lemmas.Option.{same_Some}
use Rattle.uid_sets.specs.UidSet.{Member, IsCanonical, RisesAbove}
use Rattle.uid_sets.specs.declared.uid.UidRange.{UidRange}

above : (floor : ℕ) (ranges : List UidRange) (uid : ℕ) → RisesAbove floor ranges → Member ranges uid → floor < uid
above floor [] uid r m = absurd m
above floor (range ∷ ranges) uid r (inl w) = omega (arith, r.0.above, w.above)
above floor (range ∷ ranges) uid r (inr m) =
    let rest : range.high + 1 < uid = above (range.high + 1) ranges uid r.1 m in omega (arith, r.0.above, r.0.ordered)

-- it is the low end of the first range
first_low : (range : UidRange) (ranges : List UidRange) → IsCanonical (range ∷ ranges) →
    Member (range ∷ ranges) range.low × ((other : ℕ) → Member (range ∷ ranges) other → range.low ≤ other)
first_low range ranges is = (inl (record { above = omega arith; below = is.0.ordered }), lowest)
  where
    lowest : (other : ℕ) → Member (range ∷ ranges) other → range.low ≤ other
    lowest other (inl w) = w.above
    lowest other (inr m) = let rest : range.high + 1 < other = above (range.high + 1) ranges other is.1 m in omega (arith, is.0.ordered)

-- the set's first range, as it is read
pub least_of : (set : List UidRange) (range : UidRange) → IsCanonical set → slice_get set 0 ≡ Some range →
    Member set range.low × ((other : ℕ) → Member set other → range.low ≤ other)
least_of [] range is e = absurd (cc)
least_of (first ∷ ranges) range is e =
    subst (λ (r : UidRange). Member (first ∷ ranges) r.low × ((other : ℕ) → Member (first ∷ ranges) other → r.low ≤ other))
    (same_Some first range e)
    (first_low first ranges is)
