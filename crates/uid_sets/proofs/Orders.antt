-- Ranges in order, and in another order.
use Rattle.std.proofs.Common.{◌≡◌, ◌↔◌, inl, inr, ℕ, zero, suc, ◌<◌, ◌≤◌, List, [], ◌∷◌, length, get_or, IsPermutation, Contains, refl, arith, sym, subst, true}
use Rattle.std.specs.List.{AllByRecursion}
use Rattle.std.specs.Ordering.{is_le, nat_cmp}
use Rattle.std.proofs.lemmas.Bool.Decides.{nat_tests}
use Rattle.std.specs.List.Sorted.{IsNonDecreasingBy}
use Rattle.std.proofs.lemmas.List.Sorted.{Contains-permutation, IsPermutation-sym}
use Rattle.uid_sets.specs.Uid.{IsWithin}
use Rattle.uid_sets.specs.Rising.{RisesByLow}
use Rattle.uid_sets.specs.UidSet.{Member, IsRange}
use Rattle.uid_sets.specs.declared.uid.UidRange.{UidRange}

-- a member is within one of the ranges
found : (ranges : List UidRange) (uid : ℕ) → Member ranges uid → (range : UidRange) × Contains ranges range × IsWithin range.low range.high uid
found [] uid member = absurd member
found (range ∷ ranges) uid member =
    elim member [
      | inl within ↦ (range, (0, omega arith, refl), within)
      | inr later ↦ let more = found ranges uid later in
          (more.0, (suc more.1.0, (let below = more.1.1 in omega arith), more.1.2), more.2)
    ]

member_at : (ranges : List UidRange) (uid k : ℕ) (range : UidRange) → k < length ranges → get_or ranges k range ≡ range →
    IsWithin range.low range.high uid → Member ranges uid
member_at [] uid k range below at within = absurd (omega arith)
member_at (first ∷ ranges) uid zero range below at within =
    let P : UidRange → Type 0 = λ r. IsWithin r.low r.high uid in inl (subst P (sym at) within)
member_at (first ∷ ranges) uid (suc k) range below at within = inr (member_at ranges uid k range (omega arith) at within)

moved : (left right : List UidRange) (uid : ℕ) → IsPermutation left right → Member left uid → Member right uid
moved left right uid same member =
    let here = found left uid member in
    let there = Contains-permutation left right here.0 same here.1 in
    member_at right uid there.0 here.0 there.1 there.2 here.2

-- the order of ranges doesn't matter to their members
pub Member-permutation : (left right : List UidRange) (uid : ℕ) → IsPermutation left right → Member left uid ↔ Member right uid
Member-permutation left right uid same =
    (moved left right uid same, moved right left uid (IsPermutation-sym left right same))

-- ranges in order, each of nonzero numbers
pub RisesByLow-ordered : (floor : ℕ) (ranges : List UidRange) → AllByRecursion (IsRange 0) ranges →
    IsNonDecreasingBy (λ range. range.low) ranges → (0 < length ranges → floor ≤ (get_or ranges 0 (record { low = 0; high = 0 })).low) →
    RisesByLow floor ranges
RisesByLow-ordered floor [] all ordered first = tt
RisesByLow-ordered floor (range ∷ ranges) all ordered first = (
  first (omega arith),
  all.0,
  RisesByLow-ordered range.low ranges all.1
      (λ i j d le below. ordered (suc i) (suc j) d (omega arith) (omega arith))
      (λ some. ordered 0 1 (record { low = 0; high = 0 }) (omega arith) (omega arith)),
)

-- what a test of the order of two numbers says
pub le_from_is_le : (m n : ℕ) → true ≡ is_le (nat_cmp m n) → m ≤ n
le_from_is_le m n is = grind (arith, nat_tests)
