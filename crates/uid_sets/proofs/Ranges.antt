-- Ranges put behind other ranges, and the one list of each set.
use Rattle.std.proofs.Common.{◌≡◌, ◌↔◌, ◌⊎◌, inl, inr, ℕ, zero, suc, ◌+◌, ◌<◌, ◌≤◌, List, [], ◌∷◌, ◌++◌, length, get_or, drop, drop-cons}
use Rattle.std.proofs.Common.{add-one, refl, arith, ap, sym, ◌∙◌}
use Rattle.uid_sets.specs.Uid.{IsWithin}
use Rattle.uid_sets.specs.Rising.{RisesByLow, last_low, floor_behind}
use Rattle.uid_sets.specs.UidSet.{Member, IsCanonical, IsRange, RisesAbove}
use Rattle.uid_sets.specs.declared.uid.UidRange.{UidRange}

-- a member of two lists of ranges is one of either
pub Member-append : (front back : List UidRange) (uid : ℕ) → Member (front ++ back) uid ↔ (Member front uid ⊎ Member back uid)
Member-append [] back uid = (λ h. inr h, λ h. elim h [ inl a ↦ absurd a | inr b ↦ b ])
Member-append (range ∷ front) back uid = let more = Member-append front back uid in grind (arith, more.0, more.1)

pub Member-push : (front : List UidRange) (range : UidRange) (uid : ℕ) →
    Member (front ++ range ∷ []) uid ↔ (Member front uid ⊎ IsWithin range.low range.high uid)
Member-push front range uid = let more = Member-append front (range ∷ []) uid in grind (arith, more.0, more.1)

-- a range above all before it
pub RisesAbove-push : (floor : ℕ) (front : List UidRange) (range : UidRange) → RisesAbove floor front →
    IsRange (floor_behind floor front) range → RisesAbove floor (front ++ range ∷ [])
RisesAbove-push floor [] range rises fits = (fits, tt)
RisesAbove-push floor (first ∷ front) range rises fits = (rises.0, RisesAbove-push (first.high + 1) front range rises.1 fits)

pub RisesAbove-front : (floor : ℕ) (front : List UidRange) (range : UidRange) → RisesAbove floor (front ++ range ∷ []) →
    RisesAbove floor front × IsRange (floor_behind floor front) range
RisesAbove-front floor [] range rises = (tt, rises.0)
RisesAbove-front floor (first ∷ front) range rises =
    let more = RisesAbove-front (first.high + 1) front range rises.1 in ((rises.0, more.0), more.1)

pub floor_behind-push : (floor : ℕ) (front : List UidRange) (range : UidRange) → floor_behind floor (front ++ range ∷ []) ≡ range.high + 1
floor_behind-push floor [] range = refl
floor_behind-push floor (first ∷ front) range = floor_behind-push (first.high + 1) front range

pub last_low-push : (front : List UidRange) (range : UidRange) → last_low (front ++ range ∷ []) ≡ range.low
last_low-push [] range = refl
last_low-push (first ∷ []) range = refl
last_low-push (first ∷ next ∷ front) range = last_low-push (next ∷ front) range

-- nothing at or below the floor
pub Member-above : (floor : ℕ) (ranges : List UidRange) (uid : ℕ) → RisesAbove floor ranges → Member ranges uid → floor < uid
Member-above floor [] uid rises member = absurd member
Member-above floor (range ∷ ranges) uid rises member =
    elim member as (λ _. floor < uid) [
      | inl within ↦ omega arith
      | inr later ↦ let more =
          Member-above (range.high + 1) ranges uid rises.1 later in omega (arith, rises.0)
    ]

-- a lower floor
pub RisesAbove-weaker : (low floor : ℕ) (ranges : List UidRange) → low ≤ floor → RisesAbove floor ranges → RisesAbove low ranges
RisesAbove-weaker low floor [] below rises = tt
RisesAbove-weaker low floor (range ∷ ranges) below rises =
    (record { above = omega (arith, rises.0); ordered = rises.0.ordered; fits = rises.0.fits }, rises.1)

pub same_range : (left right : UidRange) → left.low ≡ right.low → left.high ≡ right.high → left ≡ right
same_range left right low high =
    let by_low : ℕ → UidRange = λ n. record { low = n; high = left.high } in
    let by_high : ℕ → UidRange = λ n. record { low = right.low; high = n } in
    ap by_low low ∙ ap by_high high

-- no member is below the first range
pub Member-first : (floor : ℕ) (range : UidRange) (ranges : List UidRange) (uid : ℕ) → RisesAbove floor (range ∷ ranges) →
    Member (range ∷ ranges) uid → range.low ≤ uid
Member-first floor range ranges uid rises member =
    elim member as (λ _. range.low ≤ uid) [
      | inl within ↦ within.above
      | inr later ↦ let more =
          Member-above (range.high + 1) ranges uid rises.1 later in omega (arith, rises.0)
    ]

-- of two lists with the same members the first range doesn't end earlier
first_high : (floor : ℕ) (range other : UidRange) (ranges others : List UidRange) → RisesAbove floor (range ∷ ranges) →
    IsRange floor other → range.low ≡ other.low → ((uid : ℕ) → Member (other ∷ others) uid → Member (range ∷ ranges) uid) →
    other.high ≤ range.high
first_high floor range other ranges others rises is_range low same =
    let within : IsWithin other.low other.high other.high = record { above = is_range.ordered; below = omega arith } in
    let here = same other.high (inl within) in
    elim here as (λ _. other.high ≤ range.high) [
      | inl w ↦ w.below
      | inr later ↦
          let beyond = Member-above (range.high + 1) ranges other.high rises.1 later in
          let next : IsWithin other.low other.high (range.high + 1) = record { above = omega (arith, rises.0, is_range); below = omega arith } in
          let there = same (range.high + 1) (inl next) in
          elim there as (λ _. other.high ≤ range.high) [
            | inl w ↦ omega arith
            | inr again ↦ let far =
                Member-above (range.high + 1) ranges (range.high + 1) rises.1 again in omega arith
          ]
    ]

-- a member of the rest is one of the other's rest
rest_member : (range other : UidRange) (ranges others : List UidRange) (uid : ℕ) → RisesAbove (range.high + 1) ranges →
    range.high ≡ other.high → (Member (range ∷ ranges) uid → Member (other ∷ others) uid) → Member ranges uid → Member others uid
rest_member range other ranges others uid rises high same member =
    let beyond = Member-above (range.high + 1) ranges uid rises member in
    elim (same (inr member)) as (λ _. Member others uid) [ inl w ↦ absurd (omega arith) | inr later ↦ later ]

-- two lists that rise and have the same members are one
pub one_form : (floor : ℕ) (left right : List UidRange) → RisesAbove floor left → RisesAbove floor right →
    ((uid : ℕ) → Member left uid ↔ Member right uid) → left ≡ right
one_form floor [] [] rises_left rises_right same = refl
one_form floor [] (r ∷ right) rises_left rises_right same =
    absurd ((same r.low).1 (inl (record { above = omega arith; below = rises_right.0.ordered })))
one_form floor (l ∷ left) [] rises_left rises_right same =
    absurd ((same l.low).0 (inl (record { above = omega arith; below = rises_left.0.ordered })))
one_form floor (l ∷ left) (r ∷ right) rises_left rises_right same =
    let at_left : IsWithin l.low l.high l.low = record { above = omega arith; below = rises_left.0.ordered } in
    let at_right : IsWithin r.low r.high r.low = record { above = omega arith; below = rises_right.0.ordered } in
    let one = Member-first floor r right l.low rises_right ((same l.low).0 (inl at_left)) in
    let two = Member-first floor l left r.low rises_left ((same r.low).1 (inl at_right)) in
    let low : l.low ≡ r.low = omega arith in
    let three = first_high floor l r left right rises_left rises_right.0 low (λ uid. (same uid).1) in
    let four = first_high floor r l right left rises_right rises_left.0 (sym low) (λ uid. (same uid).0) in
    let high : l.high ≡ r.high = omega arith in
    let lower : RisesAbove (l.high + 1) right = rw high rises_right.1 in
    let rest = one_form (l.high + 1) left right rises_left.1 lower
    (λ uid. (rest_member l r left right uid rises_left.1 high (same uid).0, rest_member r l right left uid rises_right.1 (sym high) (same uid).1)) in
    ap (λ x. x ∷ left) (same_range l r low high) ∙ ap (λ xs. r ∷ xs) rest

-- the first range of what is left of a list
pub drop_here : (ranges : List UidRange) (i : ℕ) (other : UidRange) → i < length ranges → drop i ranges ≡ get_or ranges i other ∷ drop (i + 1) ranges
drop_here ranges i other within = rw (add-one, drop-cons ranges i other)

-- a lower floor
pub RisesByLow-weaker : (low floor : ℕ) (ranges : List UidRange) → low ≤ floor → RisesByLow floor ranges → RisesByLow low ranges
RisesByLow-weaker low floor [] below rises = tt
RisesByLow-weaker low floor (range ∷ ranges) below rises = (omega (arith, rises.0), rises.1, rises.2)

-- what is canonical rises by its low ends
pub RisesByLow-canonical : (floor : ℕ) (ranges : List UidRange) → RisesAbove floor ranges → RisesByLow floor ranges
RisesByLow-canonical floor [] rises = tt
RisesByLow-canonical floor (range ∷ ranges) rises =
    let first : IsRange 0 range = record { above = omega (arith, rises.0); ordered = rises.0.ordered; fits = rises.0.fits } in (
      omega (arith, rises.0),
      first,
      RisesByLow-weaker range.low (range.high + 1) ranges (omega (arith, rises.0))
          (RisesByLow-canonical (range.high + 1) ranges rises.1),
    )

-- a floor that the first of what is left stands on
pub RisesByLow-raised : (low floor : ℕ) (ranges : List UidRange) (i : ℕ) → RisesByLow floor (drop i ranges) →
    (i < length ranges → low ≤ (get_or ranges i (record { low = 0; high = 0 })).low) → RisesByLow low (drop i ranges)
RisesByLow-raised low floor [] zero rises first = tt
RisesByLow-raised low floor [] (suc i) rises first = tt
RisesByLow-raised low floor (range ∷ ranges) zero rises first = (first (omega arith), rises.1, rises.2)
RisesByLow-raised low floor (range ∷ ranges) (suc i) rises first = RisesByLow-raised low floor ranges i rises (λ h. first (omega arith))

-- nothing stands in a gap before the first of what is left
pub gap : (ranges : List UidRange) (i uid : ℕ) → IsCanonical (drop i ranges) →
    (i < length ranges → uid < (get_or ranges i (record { low = 0; high = 0 })).low) → ¬ Member (drop i ranges) uid
gap [] zero uid rises before member = member
gap [] (suc i) uid rises before member = member
gap (range ∷ ranges) zero uid rises before member =
    let first = Member-first 0 range ranges uid rises member in
    let low = before (omega arith) in
    absurd (omega arith)
gap (range ∷ ranges) (suc i) uid rises before member = gap ranges i uid rises (λ h. before (omega arith)) member

-- what one range more brings
pub record Pushes (old : List UidRange) (range : UidRange) (new : List UidRange) : Type 0 where
  pub canonical : IsCanonical new
  pub floor : floor_behind 0 new ≡ range.high + 1
  pub members : (uid : ℕ) → Member new uid ↔ (Member old uid ⊎ IsWithin range.low range.high uid)

pub pushes : (old : List UidRange) (range : UidRange) → IsCanonical old → IsRange (floor_behind 0 old) range → Pushes old range (old ++ range ∷ [])
pushes old range canonical fits = record {
  canonical = RisesAbove-push 0 old range canonical fits;
  floor = floor_behind-push 0 old range;
  members = Member-push old range;
}

-- what is left of a list that rises
pub RisesAbove-drop : (floor : ℕ) (ranges : List UidRange) (n : ℕ) → RisesAbove floor ranges → RisesAbove floor (drop n ranges)
RisesAbove-drop floor [] zero rises = tt
RisesAbove-drop floor [] (suc n) rises = tt
RisesAbove-drop floor (range ∷ ranges) zero rises = rises
RisesAbove-drop floor (range ∷ ranges) (suc n) rises =
    RisesAbove-drop floor ranges n (RisesAbove-weaker floor (range.high + 1) ranges (omega (arith, rises.0)) rises.1)
