-- What the questions to a set find in its ranges.
use Rattle.std.proofs.Common.{◌≡◌, ◌↔◌, inl, inr, ℕ, zero, suc, ◌+◌, ◌<◌, ◌≤◌, List, [], ◌∷◌, length, get_or, refl, arith}
use Rattle.std.specs.List.Sorted.{IsNonDecreasingBy}
use Rattle.uid_sets.specs.Rising.{last_low}
use Rattle.uid_sets.specs.UidSet.{Member, IsCanonical, IsOnly, RisesAbove}
use Rattle.uid_sets.specs.declared.uid.UidRange.{UidRange}
use Rattle.uid_sets.proofs.Ranges.{Member-first, last_low-push}
use Rattle.uid_sets.proofs.Joins.{ends_in}

abbrev pub none : UidRange
none = record { low = 0; high = 0 }

high_above : (floor : ℕ) (ranges : List UidRange) (i : ℕ) (other : UidRange) → RisesAbove floor ranges → i < length ranges →
    floor < (get_or ranges i other).high
high_above floor [] i other rises within = absurd (omega arith)
high_above floor (range ∷ ranges) zero other rises within = omega (arith, rises.0)
high_above floor (range ∷ ranges) (suc i) other rises within =
    let more = high_above (range.high + 1) ranges i other rises.1 (omega arith) in omega (arith, rises.0)

-- the high ends rise
pub highs_rise : (floor : ℕ) (ranges : List UidRange) → RisesAbove floor ranges → IsNonDecreasingBy (λ range. range.high) ranges
highs_rise floor [] rises i j other le within = absurd (omega arith)
highs_rise floor (range ∷ ranges) rises zero zero other le within = omega arith
highs_rise floor (range ∷ ranges) rises zero (suc j) other le within =
    let more = high_above (range.high + 1) ranges j other rises.1 (omega arith) in omega arith
highs_rise floor (range ∷ ranges) rises (suc i) zero other le within = absurd (omega arith)
highs_rise floor (range ∷ ranges) rises (suc i) (suc j) other le within =
    highs_rise (range.high + 1) ranges rises.1 i j other (omega arith) (omega arith)

-- the one place where a member can stand
pub member_by_place : (floor : ℕ) (ranges : List UidRange) (uid place : ℕ) → RisesAbove floor ranges →
    ((k : ℕ) → k < place → k < length ranges → (get_or ranges k none).high < uid) →
    (place < length ranges → uid ≤ (get_or ranges place none).high) →
    Member ranges uid ↔ ((place < length ranges) × ((get_or ranges place none).low ≤ uid))
member_by_place floor [] uid place rises below above = (λ member. absurd member, λ found. absurd (omega (arith, found.0)))
member_by_place floor (range ∷ ranges) uid zero rises below above = (
  λ member. (omega arith, Member-first floor range ranges uid rises member),
  λ found. inl (record { above = found.1; below = above found.0 }),
)
member_by_place floor (range ∷ ranges) uid (suc place) rises below above =
    let past = below 0 (omega arith) (omega arith) in
    let more = member_by_place (range.high + 1) ranges uid place rises.1 (λ k low within. below (suc k) (omega arith) (omega arith))
    (λ within. above (omega arith)) in (
      λ member. elim member [ inl here ↦ absurd (omega (arith, here)) | inr later ↦ (let found = more.0 later in (omega (arith, found.0), found.1)) ],
      λ found. inr (more.1 (omega (arith, found.0), found.1)),
    )

-- a set with no member has no range
pub no_range : (ranges : List UidRange) → IsCanonical ranges → ((uid : ℕ) → ¬ Member ranges uid) → ranges ≡ []
no_range [] rises none = refl
no_range (range ∷ ranges) rises none =
    absurd (none range.low (inl (record { above = omega arith; below = rises.0.ordered })))

-- a set of one member has one range
pub only_length : (ranges : List UidRange) (uid : ℕ) → IsCanonical ranges → IsOnly ranges uid → length ranges ≡ 1
only_length [] uid rises only = absurd ((only uid).1 refl)
only_length (range ∷ []) uid rises only = omega arith
only_length (range ∷ next ∷ ranges) uid rises only =
    let first = (only range.low).0 (inl (record { above = omega arith; below = rises.0.ordered })) in
    let second = (only next.low).0 (inr (inl (record { above = omega arith; below = rises.1.0.ordered }))) in
    absurd (omega (arith, rises.0, rises.1.0))

-- and the two ends of it are one
pub only_ends : (ranges : List UidRange) (range : UidRange) (uid : ℕ) → IsCanonical ranges → IsOnly ranges uid → 0 < length ranges →
    range ≡ get_or ranges 0 range → range.low ≡ range.high
only_ends [] range uid rises only some at = absurd (omega arith)
only_ends (first ∷ ranges) range uid rises only some at =
    let low = (only first.low).0 (inl (record { above = omega arith; below = rises.0.ordered })) in
    let high = (only first.high).0 (inl (record { above = rises.0.ordered; below = omega arith })) in
    rw at (omega arith)

-- where the last range begins
pub last_low-last : (ranges : List UidRange) (n : ℕ) (last : UidRange) → length ranges ≡ n + 1 → last ≡ get_or ranges n last → last_low ranges ≡ last.low
last_low-last ranges n last len at = let ends = ends_in ranges n last len at in rw (ends.is, last_low-push) refl

pub last_low-none : (ranges : List UidRange) → length ranges ≡ 0 → last_low ranges ≡ 0
last_low-none [] len = refl
last_low-none (range ∷ ranges) len = absurd (omega arith)

pub no_member : (ranges : List UidRange) (uid : ℕ) → length ranges ≡ 0 → ¬ Member ranges uid
no_member [] uid len member = member
no_member (range ∷ ranges) uid len member = absurd (omega arith)
