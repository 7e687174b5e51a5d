-- How many ranges there can be, how many bytes they have, and that each row has few flags.
use Rattle.std.proofs.Common.{◌≡◌, ◌≤◌, ◌<◌, ◌+◌, ◌*◌, ◌^◌, ℕ, zero, suc, List, [], ◌∷◌, length, take, slice_index_or, refl, sym, ap, ◌∙◌, subst, arith}
use Rattle.std.specs.List.{flat_map, AllByRecursion}
use Rattle.std.proofs.lemmas.List.{length-append}
use Rattle.std.proofs.lemmas.List.Concat.{flat_map-cons}
use Rattle.uid_sets.specs.declared.uid.UidRange.{UidRange}
use Rattle.uid_sets.specs.UidSet.{RisesAbove, IsCanonical}
use Rattle.mailbox_cache.specs.declared.row.Row.{Row}
use Rattle.action_queue.specs.Writable.{HaveFewFlags}
use Rattle.record_codec.specs.Fields.{range_field}

rises_fits : (floor : ℕ) (ranges : List UidRange) → floor ≤ 2 ^ 32 → RisesAbove floor ranges → floor + 2 * length ranges ≤ 2 ^ 32
rises_fits floor [] fits rises = omega (arith, fits)
rises_fits floor (range ∷ ranges) fits rises =
    let rest = rises_fits (range.high + 1) ranges (omega (arith, rises.0.fits)) rises.1 in
    omega (arith, rest, rises.0.above, rises.0.ordered)

-- a set has fewer ranges than there are UIDs
pub few_ranges : (ranges : List UidRange) → IsCanonical ranges → length ranges < 2 ^ 32
few_ranges ranges canonical = omega (arith, rises_fits 0 ranges (omega arith) canonical)

-- each range has eight bytes
pub ranges_length : (ranges : List UidRange) → length (flat_map range_field ranges) ≡ 8 * length ranges
ranges_length [] = refl
ranges_length (range ∷ ranges) =
    ap length (flat_map-cons range_field range ranges) ∙ length-append (range_field range) (flat_map range_field ranges)
    ∙ omega (arith, ranges_length ranges)

-- each row has few flags
pub few_at : (rows : List (ℕ × Row)) (at : ℕ) (r : ℕ × Row) → HaveFewFlags rows → at < length rows → r ≡ slice_index_or rows at r → length r.1.flags ≤ 1024
few_at [] at r few there is = absurd (omega (arith, there))
few_at (first ∷ rows) zero r few there is = subst (λ (x : ℕ × Row). length x.1.flags ≤ 1024) (sym is) few.0
few_at (first ∷ rows) (suc at) r few there is = few_at rows at r few.1 (omega (arith, there)) is

-- what holds of the items so far, and of the next one
pub all_more : {A : Type 0} (P : A → Type 0) (xs : List A) (at : ℕ) (x : A) → at < length xs → x ≡ slice_index_or xs at x →
    AllByRecursion P (take at xs) → P x → AllByRecursion P (take (suc at) xs)
all_more P [] at x there is all p = absurd (omega (arith, there))
all_more P (y ∷ xs) zero x there is all p = (subst P is p, tt)
all_more P (y ∷ xs) (suc at) x there is all p = (all.0, all_more P xs at x (omega (arith, there)) is all.1 p)
