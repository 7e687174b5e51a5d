-- What of a range a walk over holes has put so far.
use Rattle.std.proofs.Common.{◌↔◌, ◌⊎◌, inl, inr, ℕ, ◌<◌, ◌≤◌, arith}
use Rattle.uid_sets.specs.Uid.{IsWithin}

-- up to a hole all is put, and in the hole nothing
pub up_to_hole : (Old Now New Taken : Type 0) (from low hole end uid : ℕ) → (New ↔ (Now ⊎ ((low ≤ uid) × (uid < hole)))) →
    (Now ↔ (Old ⊎ ((from ≤ uid) × (uid < low) × ¬ Taken))) → (low ≤ uid → uid < hole → ¬ Taken) →
    (low ≤ uid → hole ≤ uid → uid < end → Taken) → from ≤ low → low ≤ end → hole ≤ end →
    New ↔ (Old ⊎ ((from ≤ uid) × (uid < end) × ¬ Taken))
up_to_hole Old Now New Taken from low hole end uid new now free held low_from low_end hole_end = grind (arith, new.0, new.1, now.0, now.1)

-- behind the last hole all is put
pub up_to_end : (Old Now New Taken : Type 0) (from low high uid : ℕ) → (New ↔ (Now ⊎ IsWithin low high uid)) →
    (Now ↔ (Old ⊎ ((from ≤ uid) × (uid < low) × ¬ Taken))) → (low ≤ uid → uid ≤ high → ¬ Taken) → from ≤ low → low ≤ high →
    New ↔ (Old ⊎ (IsWithin from high uid × ¬ Taken))
up_to_end Old Now New Taken from low high uid new now free low_from low_high = grind (arith, new.0, new.1, now.0, now.1)

-- a range more is done: one UID, by what holds it
pub range_done : (New Now Range Rest All Taken Left : Type 0) → (New ↔ (Now ⊎ (Range × ¬ Left))) →
    ((Now ⊎ ((Range ⊎ Rest) × ¬ Taken)) ↔ (All × ¬ Taken)) → ((Range ⊎ Rest) → Taken ↔ Left) → (New ⊎ (Rest × ¬ Taken)) ↔ (All × ¬ Taken)
range_done New Now Range Rest All Taken Left new now same = (
  λ h. elim h [
    | inl put ↦ elim (new.0 put) [
      | inl old ↦ now.0 (inl old)
      | inr cut ↦ now.0 (inr (inl cut.0, λ taken. cut.1 ((same (inl cut.0)).0 taken)))
    ]
    | inr rest ↦ now.0 (inr (inr rest.0, rest.1))
  ],
  λ h. elim (now.1 h) [
    | inl old ↦ inl (new.1 (inl old))
    | inr left ↦ elim left.0 [
      | inl range ↦ inl (new.1 (inr (range, λ taken. left.1 ((same (inl range)).1 taken))))
      | inr rest ↦ inr (rest, left.1)
    ]
  ],
)
