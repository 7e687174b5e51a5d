-- Bytes are put behind a closed gate piece by piece, and count once it is open.
use Rattle.std.specs.Prelude.{◌≡◌, ◌≢◌, ℕ, ◌+◌, ◌≤◌, List, [], ◌∷◌, ◌++◌, length, Result, OnOk, ⊤}
use Rattle.world_traits.specs.Files.{Range, Files, clean, file_of, other}
use Rattle.world_traits.specs.Moments.{Moment, Clock, Only, Since, Rests, stored}
use Rattle.world_traits.specs.declared.disk.Side.{Side}
use Rattle.journal_core.specs.Gates.{Beside, IsShut, IsOpened, Passes, Remains}
use Rattle.journal_core.specs.Creating.{AsBefore}

-- each range lies at or behind this place
abbrev pub AreBehind : ℕ → List Range → Type 0
AreBehind n [] = ⊤
AreBehind n (r ∷ rs) = (n ≤ r.low) × AreBehind n rs

-- a closed gate behind these bytes, and these fresh ones behind the gate
pub record IsFilled (front fresh bytes : List ℕ) : Type 0 where
  pub gate : ℕ
  pub rest : List ℕ
  pub closed : gate ≢ 1
  pub is : bytes ≡ front ++ gate ∷ (fresh ++ rest)

-- A side is drafted: on the disk its gate behind these bytes is closed, all that was written since the last sync stands
-- behind the gate, and these fresh bytes are read there. The other side is on the disk, with these bytes.
pub record IsDraft (side : Side) (others front fresh : List ℕ) (m : Moment) (seen : Files) : Type 0 where
  pub there : stored (other side) m ≡ clean others
  pub same : file_of (other side) seen ≡ others
  pub shut : IsShut front (stored side m).synced
  pub behind : AreBehind (length front + 1) (stored side m).written
  pub filled : IsFilled front fresh (file_of side seen)

-- the images of each moment have the gate closed
abbrev pub StaysShut : Side → List ℕ → List ℕ → Clock → Clock → Type 0
StaysShut side others front old new = Since (Only (Beside side others (IsShut front))) (Remains (Beside side others (IsShut front))) old new

-- more bytes are put behind those of a draft
pub record DraftsMore {T E : Type 0} (side : Side) (others front fresh more : List ℕ) (old new : Clock) (seen : Files) (result : Result T E) : Type 0 where
  pub passing : StaysShut side others front old new
  pub done : OnOk result (IsDraft side others front (fresh ++ more) new.now seen)

-- The same wherever a draft stands up to this place.
abbrev pub Drafts : {T E : Type 0} → Side → ℕ → List ℕ → Clock → Clock → Files → Files → Result T E → Type 0
Drafts side at more old new seen seen_after result =
    (others front fresh : List ℕ) → IsDraft side others front fresh old.now seen → at ≡ length front + 1 + length fresh →
    DraftsMore side others front fresh more old new seen_after result

-- Bytes are put behind those that were held back at this place, or held back as well: what is put, and what is held back
-- then, are these bytes.
pub record Gathers {T E : Type 0} (side : Side) (at : ℕ) (held more left : List ℕ) (old new : Clock) (seen seen_after : Files)
    (result : Result T E) : Type 0 where
  pub put : List ℕ
  pub is : OnOk result (put ++ left ≡ held ++ more)
  pub told : Drafts side at put old new seen seen_after result

-- the gate of a draft is opened
pub record OpensDraft {T E : Type 0} (side : Side) (others front fresh : List ℕ) (old new : Clock) (seen : Files) (result : Result T E) : Type 0 where
  pub passing : Passes (Beside side others (IsShut front)) (Beside side others (IsOpened front fresh)) old new
  pub rests : OnOk result (Rests new.now seen)
  pub done : OnOk result (Beside side others (IsOpened front fresh) seen)

-- The head gate of a side is closed, and its header is put behind it. The other side stays.
pub record BeginsDraft {T E : Type 0} (side : Side) (header : List ℕ) (old new : Clock) (seen seen_after : Files) (result : Result T E) : Type 0 where
  pub passing : Rests old.now seen →
      Since (Only (Beside side (file_of (other side) seen) (AsBefore (file_of side seen))))
      (Remains (Beside side (file_of (other side) seen) (AsBefore (file_of side seen)))) old new
  pub done : Rests old.now seen → OnOk result (IsDraft side (file_of (other side) seen) [] header new.now seen_after)
