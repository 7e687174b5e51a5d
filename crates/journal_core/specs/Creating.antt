-- What setting up a side does at every moment.
use Rattle.std.specs.Prelude.{◌≡◌, ◌⊎◌, ℕ, ◌+◌, ◌<◌, true, false, List, [], ◌∷◌, ◌++◌, length, Result, OnOk}
use Rattle.std.specs.List.{AllByRecursion}
use Rattle.world_traits.specs.Files.{Files, file_of, other}
use Rattle.world_traits.specs.Moments.{Clock, Rests, Since, Only, GoesOn, Images, Within, Narrows, OneSideAtRest}
use Rattle.world_traits.specs.declared.disk.Side.{Side}
use Rattle.journal_core.specs.declared.version.Version.{Version}
use Rattle.journal_core.specs.Records.{records}
use Rattle.journal_core.specs.Sides.{head_of, header_of, version_written, IsBegun, IsSetUp, HasWrongHeader}
use Rattle.journal_core.specs.Holds.{Holds}
use Rattle.journal_core.specs.Standing.{Standing}
use Rattle.world_traits.specs.declared.disk.Side.TheVariants.{Left}
use Rattle.journal_core.specs.Gates.{Beside, IsShut, Passes, Remains}
use Rattle.journal_core.specs.OneSide.{EachOneSide}
use Rattle.journal_core.specs.Settling.{Settles}

-- the bytes of a file that was never begun, or as it was
abbrev pub AsBefore : List ℕ → List ℕ → Type 0
AsBefore before bytes = (bytes ≡ before) ⊎ (IsBegun bytes → ⊥)

-- the header and the records of these bodies, behind the head gate
abbrev pub set_up_bytes : Version → ℕ → List (List ℕ) → List ℕ
set_up_bytes version generation bodies = header_of version generation ++ records bodies ++ 0 ∷ []

-- A side is set up with these bodies, and the other one stays: the images go from those in which the side is as it was
-- or isn't begun to those in which it holds the bodies behind its head.
pub record SetsUp {T E : Type 0} (side : Side) (version : Version) (generation : ℕ) (bodies : List (List ℕ)) (old new : Clock)
    (seen seen_after : Files) (result : Result T E) : Type 0 where
  pub passing : Rests old.now seen →
      Passes (Beside side (file_of (other side) seen) (AsBefore (file_of side seen)))
      (Beside side (file_of (other side) seen) (IsShut (head_of version generation ++ records bodies))) old new
  pub rests : Rests old.now seen → OnOk result (Rests new.now seen_after)
  pub done : Rests old.now seen →
      OnOk result (Beside side (file_of (other side) seen) (IsShut (head_of version generation ++ records bodies)) seen_after)

-- The head gate of a side is closed, and the other side stays.
pub record ClosesHead {T E : Type 0} (side : Side) (old new : Clock) (seen seen_after : Files) (result : Result T E) : Type 0 where
  pub passing : Rests old.now seen →
      Since (Only (Beside side (file_of (other side) seen) (AsBefore (file_of side seen))))
      (Remains (Beside side (file_of (other side) seen) (AsBefore (file_of side seen)))) old new
  pub rests : Rests old.now seen → OnOk result (Rests new.now seen_after)
  pub done : Rests old.now seen → OnOk result (Beside side (file_of (other side) seen) (IsShut []) seen_after)

-- none of these bodies is empty
abbrev pub NoneEmpty : List (List ℕ) → Type 0
NoneEmpty bodies = AllByRecursion (λ (body : List ℕ). 0 < length body) bodies

-- no side is set up
abbrev pub IsFree : Files → Type 0
IsFree files = (side : Side) (version : Version) (generation : ℕ) → IsSetUp version generation (file_of side files) → ⊥

-- a side is set up, and none has a wrong header
pub record IsTaken (files : Files) : Type 0 where
  pub right : (any : Side) → HasWrongHeader (file_of any files) → ⊥
  pub side : Side
  pub version : Version
  pub generation : ℕ
  pub set_up : IsSetUp version generation (file_of side files)

-- no side has an open head gate and at least 14 bytes
abbrev pub IsUnbegun : Files → Type 0
IsUnbegun files = (side : Side) → IsBegun (file_of side files) → ⊥

-- the place behind the closed gate behind these records
abbrev pub end_of : List (List ℕ) → ℕ
end_of bodies = 14 + length (records bodies)

-- the journal that was created with these bodies
abbrev pub created : List (List ℕ) → Standing
created bodies = record {
  side = Left;
  version = version_written;
  generation = 1;
  place = 13 + length (records bodies);
  all_read = true;
  failed = false;
}

-- First syncs leave some of the images that were there. Then the images go from those with no side begun to those that
-- hold the bodies.
abbrev pub CreatesThrough : List (List ℕ) → Clock → Clock → Type 0
CreatesThrough bodies old new =
    Since (λ m. Within old.now m ⊎ Images (λ files. IsUnbegun files ⊎ Holds version_written bodies files) m)
    (λ m n. Within m n ⊎ GoesOn IsUnbegun (Holds version_written bodies) m n) old new

-- The same where one side was on the disk: the first syncs come to what is read, at a clock between the two, and behind it
-- the images go from those with no side begun to those that hold the bodies.
pub record CreatesBehind (bodies : List (List ℕ)) (old new : Clock) (seen : Files) : Type 0 where
  pub at : Clock
  pub settles : Settles old at seen
  pub narrows : Narrows old at
  pub passes : Passes IsUnbegun (Holds version_written bodies) at new

-- What creating a journal does at every moment. Where one side was on the disk the syncs come to what is read, and one side
-- is on the disk at each moment.
pub record CreatesJournal (bodies : List (List ℕ)) (old new : Clock) (seen : Files) : Type 0 where
  pub told : CreatesThrough bodies old new
  pub exact : OneSideAtRest old.now → CreatesBehind bodies old new seen
  pub one_side : OneSideAtRest old.now → OneSideAtRest new.now
  pub each_one_side : OneSideAtRest old.now → EachOneSide old new
