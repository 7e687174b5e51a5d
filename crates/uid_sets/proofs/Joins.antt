-- One range more, joined to the last where they overlap or touch.
use Rattle.std.proofs.Common.{◌≡◌, ◌↔◌, ◌⊎◌, ℕ, suc, zero, ◌+◌, ◌-◌, ◌<◌, ◌≤◌, max, List, [], ◌∷◌, ◌++◌, length, get_or, set, refl, arith, ap, sym}
use Rattle.uid_sets.specs.Uid.{IsWithin}
use Rattle.uid_sets.specs.Rising.{last_low, floor_behind}
use Rattle.uid_sets.specs.UidSet.{Member, IsCanonical, IsRange}
use Rattle.uid_sets.specs.declared.uid.UidRange.{UidRange}
use Rattle.uid_sets.proofs.Ranges.{Member-push, RisesAbove-push, RisesAbove-front, last_low-push, floor_behind-push}

-- the new list is canonical, holds what the old one and the range hold, and ends in a range that begins no later
pub record Joins (old : List UidRange) (range : UidRange) (new : List UidRange) : Type 0 where
  pub canonical : IsCanonical new
  pub members : (uid : ℕ) → Member new uid ↔ (Member old uid ⊎ IsWithin range.low range.high uid)
  pub rising : last_low new ≤ range.low

-- a list of ranges by its last one, with another in its place
pub record EndsIn (old : List UidRange) (n : ℕ) (last : UidRange) : Type 0 where
  pub front : List UidRange
  pub is : old ≡ front ++ last ∷ []
  pub replaced : (other : UidRange) → set old n other ≡ front ++ other ∷ []

pub ends_in : (old : List UidRange) (n : ℕ) (last : UidRange) → length old ≡ n + 1 → last ≡ get_or old n last → EndsIn old n last
ends_in [] n last len at = absurd (omega arith)
ends_in (x ∷ []) zero last len at = record { front = []; is = ap (λ r. r ∷ []) (sym at); replaced = λ other. refl }
ends_in (x ∷ []) (suc n) last len at = absurd (omega arith)
ends_in (x ∷ y ∷ old) zero last len at = absurd (omega arith)
ends_in (x ∷ y ∷ old) (suc n) last len at =
    let more = ends_in (y ∷ old) n last (omega arith) at in
    record { front = x ∷ more.front; is = ap (λ rs. x ∷ rs) more.is; replaced = λ other. ap (λ rs. x ∷ rs) (more.replaced other) }

-- one range that covers two which overlap or touch
covers : (uid high : ℕ) (last range : UidRange) → last.low ≤ range.low → range.low - 1 ≤ last.high → high ≡ max last.high range.high →
    IsWithin last.low high uid ↔ (IsWithin last.low last.high uid ⊎ IsWithin range.low range.high uid)
covers uid high last range low touch is = grind arith

wider_at : (front : List UidRange) (last range : UidRange) (high : ℕ) → IsCanonical (front ++ last ∷ []) → IsRange 0 range →
    last.low ≤ range.low → range.low - 1 ≤ last.high → high ≡ max last.high range.high →
    Joins (front ++ last ∷ []) range (front ++ record { low = last.low; high = high } ∷ [])
wider_at front last range high canonical is_range low touch is =
    let parts = RisesAbove-front 0 front last canonical in
    let wide : UidRange = record { low = last.low; high = high } in
    let fits : IsRange (floor_behind 0 front) wide = record {
      above = parts.1.above;
      ordered = omega (arith, parts.1.ordered);
      fits =
          omega (arith, parts.1.fits, is_range.fits);
    } in
    record {
      canonical = RisesAbove-push 0 front wide parts.0 fits;
      members = λ uid.
          let old = Member-push front last uid in
          let new = Member-push front wide uid in
          let cover = covers uid high last range low touch is in
          grind (arith, old.0, old.1, new.0, new.1, cover.0, cover.1);
      rising = rw (last_low-push front wide) low;
    }

wider_from : (old new front : List UidRange) (last range : UidRange) (high : ℕ) → old ≡ front ++ last ∷ [] →
    new ≡ front ++ record { low = last.low; high = high } ∷ [] → IsCanonical old → IsRange 0 range → last_low old ≤ range.low →
    range.low - 1 ≤ last.high → high ≡ max last.high range.high → Joins old range new
wider_from old new front last range high is is_new canonical is_range rising touch high_is =
    let canonical' = rw is at canonical in
    let rising' = rw (is, last_low-push) at rising in
    rw (is, is_new) (wider_at front last range high canonical' is_range rising' touch high_is)

pub joins_wider : (old : List UidRange) (n : ℕ) (last range : UidRange) (high : ℕ) → length old ≡ n + 1 → last ≡ get_or old n last →
    IsCanonical old → IsRange 0 range → last_low old ≤ range.low → range.low - 1 ≤ last.high → high ≡ max last.high range.high →
    Joins old range (set old n (record { low = last.low; high = high }))
joins_wider old n last range high len at canonical is_range rising touch high_is =
    let ends = ends_in old n last len at in
    wider_from old _ ends.front last range high ends.is (ends.replaced (record { low = last.low; high = high })) canonical is_range rising touch high_is

pub joins_behind : (old : List UidRange) (range : UidRange) → IsCanonical old → IsRange 0 range → floor_behind 0 old < range.low →
    Joins old range (old ++ range ∷ [])
joins_behind old range canonical is_range above = record {
  canonical = RisesAbove-push 0 old range canonical (record { above = above; ordered = is_range.ordered; fits = is_range.fits });
  members = Member-push old range;
  rising = rw last_low-push (omega arith);
}

pub floor_behind-last : (old : List UidRange) (n : ℕ) (last : UidRange) → length old ≡ n + 1 → last ≡ get_or old n last → floor_behind 0 old ≡ last.high + 1
floor_behind-last old n last len at =
    let ends = ends_in old n last len at in rw (ends.is, floor_behind-push) refl

pub floor_behind-none : (old : List UidRange) → length old ≡ 0 → floor_behind 0 old ≡ 0
floor_behind-none [] len = refl
floor_behind-none (x ∷ old) len = absurd (omega arith)
