-- The set of ranges as they are written has their members, and is the one list of ranges for them.
use Rattle.std.proofs.Common.{◌≡◌, ◌↔◌, ◌⊎◌, ℕ, ◌+◌, ◌≤◌, min, max, List, [], ◌∷◌, Ok, sym, ap, inl, inr, arith}
use Rattle.std.proofs.lemmas.Bool.{cases_Bool, ltb-true, ltb-false}
use Rattle.std.specs.Prelude.{nat_lt}
use Rattle.std.specs.List.{AllByRecursion}
use Rattle.uid_sets.specs.Uid.{IsWithin}
use Rattle.uid_sets.specs.UidSet.{Member, IsRange, RisesAbove, IsCanonical}
use Rattle.uid_sets.specs.SequenceSet.{Spells}
use Rattle.uid_sets.specs.declared.uid.UidRange.{UidRange}
use Rattle.uid_sets.proofs.Fits.{items_of_fit}
use Rattle.uid_sets.proofs.Ranges.{one_form, RisesAbove-weaker}
use Rattle.imap_response.specs.Leaf.{wide_at}
use Rattle.imap_response.specs.Sets.{put_range, set_of_ranges, set_at}

abbrev joined : UidRange → UidRange → UidRange
joined first range = record { low = min first.low range.low; high = max first.high range.high }

pub put_rises : (floor : ℕ) (range : UidRange) (ranges : List UidRange) → IsRange floor range → RisesAbove floor ranges →
    RisesAbove floor (put_range range ranges)
unfolding put_range
put_rises floor range [] is rises = (is, tt)
put_rises floor range (first ∷ later) is rises = elim (cases_Bool (nat_lt (range.high + 1) first.low)) [
  | inl behind ↦ let above = ltb-true _ _ behind in
      rw behind (is, (record { above = above; ordered = rises.0.ordered; fits = rises.0.fits }, rises.1))
  | inr apart ↦ elim (cases_Bool (nat_lt (first.high + 1) range.low)) [
    | inl before ↦ let above = ltb-true _ _ before in
        rw (apart, before) (rises.0, put_rises (first.high + 1) range later (record { above = above; ordered = is.ordered; fits = is.fits }) rises.1)
    | inr not ↦
        let merged : IsRange floor (joined first range) = record {
          above = omega (arith, is.above, rises.0.above);
          ordered =
              omega (arith, is.ordered, rises.0.ordered);
          fits = omega (arith, is.fits, rises.0.fits);
        } in
        let lower : floor ≤ first.high + 1 = omega (arith, rises.0.above, rises.0.ordered) in
        rw (apart, not) (put_rises floor (joined first range) later merged (RisesAbove-weaker floor (first.high + 1) later lower rises.1))
  ]
]

within_joined : (a b c d uid : ℕ) → a ≤ b → c ≤ d → a ≤ d + 1 → c ≤ b + 1
    → IsWithin (min a c) (max b d) uid ↔ (IsWithin c d uid ⊎ IsWithin a b uid)
within_joined a b c d uid ab cd ad cb = grind arith

pub put_member : (range : UidRange) (ranges : List UidRange) (uid : ℕ) → IsRange 0 range → AllByRecursion (IsRange 0) ranges →
    Member (put_range range ranges) uid ↔ (IsWithin range.low range.high uid ⊎ Member ranges uid)
unfolding put_range
put_member range [] uid is all = (λ m. m, λ m. m)
put_member range (first ∷ later) uid is all = elim (cases_Bool (nat_lt (range.high + 1) first.low)) [
  | inl behind ↦ rw behind (λ m. m, λ m. m)
  | inr apart ↦ elim (cases_Bool (nat_lt (first.high + 1) range.low)) [
    | inl before ↦ let more = put_member range later uid is all.1 in rw (apart, before) (grind (arith, more.0, more.1))
    | inr not ↦
        let merged : IsRange 0 (joined first range) = record {
          above = omega (arith, is.above, all.0.above);
          ordered =
              omega (arith, is.ordered, all.0.ordered);
          fits = omega (arith, is.fits, all.0.fits);
        } in
        let more = put_member (joined first range) later uid merged all.1 in
        let both = within_joined first.low first.high range.low range.high uid all.0.ordered is.ordered (ltb-false _ _ apart) (ltb-false _ _ not) in
        rw (apart, not) (grind (arith, more.0, more.1, both.0, both.1))
  ]
]

pub all_rises : (floor : ℕ) (ranges : List UidRange) → RisesAbove floor ranges → AllByRecursion (IsRange 0) ranges
all_rises floor [] rises = tt
all_rises floor (range ∷ ranges) rises = (
  record { above = omega (arith, rises.0.above); ordered = rises.0.ordered; fits = rises.0.fits },
  all_rises (range.high + 1) ranges rises.1,
)

-- the set has one list
pub set_canonical : (ranges : List UidRange) → AllByRecursion (IsRange 0) ranges → IsCanonical (set_of_ranges ranges)
set_canonical [] all = tt
set_canonical (range ∷ ranges) all = put_rises 0 range (set_of_ranges ranges) all.0 (set_canonical ranges all.1)

-- and the members of what is written
pub set_members : (ranges : List UidRange) (uid : ℕ) → AllByRecursion (IsRange 0) ranges → Member (set_of_ranges ranges) uid ↔ Member ranges uid
set_members [] uid all = (λ m. m, λ m. m)
set_members (range ∷ ranges) uid all =
    let rest = set_members ranges uid all.1 in
    let first = put_member range (set_of_ranges ranges) uid all.0 (all_rises 0 _ (set_canonical ranges all.1)) in
    grind (arith, rest.0, rest.1, first.0, first.1)

-- the set that a text spells is that of its ranges
pub spelt_set : (text : List ℕ) (uids : List UidRange) (spells : Spells text uids) → uids ≡ set_of_ranges spells.written
spelt_set text uids spells =
    let all = items_of_fit text spells.written spells.read in
    one_form 0 uids (set_of_ranges spells.written) spells.canonical (set_canonical spells.written all) (λ uid.
    let mine = set_members spells.written uid all in
    let told = spells.members uid in
    (λ m. mine.1 (told.0 m), λ m. told.1 (mine.0 m)))

-- a run that spells the set is read as it
pub set_read : (text run rest : List ℕ) (uids : List UidRange) → (run, rest) ≡ wide_at text → Spells run uids → set_at text ≡ Ok (uids, rest)
unfolding set_at
set_read text run rest uids at spells =
    let first : run ≡ (wide_at text).0 = ap (λ p. p.0) at in
    let second : rest ≡ (wide_at text).1 = ap (λ p. p.1) at in
    rw (sym first, sym second, spells.read) (ap (λ u. Ok (u, rest)) (sym (spelt_set run uids spells)))
