-- An action whose changes fit its outcome took effect at most once, and isn't missing.
use Rattle.std.proofs.Common.{◌≡◌, ◌≤◌, ◌==◌, Bool, true, false, List, [], ◌∷◌, length, Some, refl, ap, arith}
use Rattle.std.specs.Prelude.{nat_lt, not, ◌&&◌}
use Rattle.imap_model.specs.declared.deed.Deed.{Deed}
use Rattle.action_queue.specs.declared.outcome.Outcome.{Outcome}
use Rattle.action_queue.specs.declared.outcome.Outcome.TheVariants as outcomes
use Rattle.book_laws.specs.Once.{Fits, FitsConflict, is_unsure}
use Rattle.mail_drill.specs.Counted.{is_conflict}

few_once : (mine : List Deed) → length mine ≤ 1 → nat_lt 1 (length mine) ≡ false
few_once [] few = refl
few_once (d ∷ []) few = refl
few_once (d ∷ e ∷ ds) few = absurd (omega (arith, few))

conflict_few : (unsure : Bool) (mine : List Deed) → FitsConflict unsure mine → length mine ≤ 1
conflict_few true mine fits = fits
conflict_few false mine fits = omega (arith, ap length fits)

-- it took effect at most once
pub fits_once : (outcome : Outcome) (mine : List Deed) → Fits outcome mine → nat_lt 1 (length mine) ≡ false
fits_once (outcomes.Done place) [] fits = absurd fits
fits_once (outcomes.Done place) (d ∷ []) fits = refl
fits_once (outcomes.Done place) (d ∷ e ∷ ds) fits = absurd fits
fits_once (outcomes.Conflict kind) mine fits = few_once mine (conflict_few (is_unsure kind) mine fits)

-- it took effect once or is a conflict
pub fits_there : (outcome : Outcome) (mine : List Deed) → Fits outcome mine → (not (is_conflict (Some outcome)) && not (length mine == 1)) ≡ false
fits_there (outcomes.Done place) [] fits = absurd fits
fits_there (outcomes.Done place) (d ∷ []) fits = refl
fits_there (outcomes.Done place) (d ∷ e ∷ ds) fits = absurd fits
fits_there (outcomes.Conflict kind) mine fits = refl
