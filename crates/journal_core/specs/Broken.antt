-- Why files are no journal of the records that are due in it, whatever those are.
use Rattle.std.specs.Prelude.{◌≡◌, ℕ, ◌+◌, List, ◌++◌, length, drop}
use Rattle.world_traits.specs.Files.{Files, file_of}
use Rattle.world_traits.specs.declared.disk.Side.{Side}
use Rattle.journal_core.specs.declared.version.Version.{Version}
use Rattle.journal_core.specs.Records.{AreBodies, records}
use Rattle.journal_core.specs.Holds.{IsPresent}
use Rattle.journal_core.specs.Reading.{HasClosedGate, IsTorn, StandsAt}

-- records of these bodies stand from the first gate on, each whole behind an open gate, and the next gate is at this place
pub record StandUpTo (place : ℕ) (bodies : List (List ℕ)) (bytes : List ℕ) : Type 0 where
  pub sizes : AreBodies bodies
  pub rest : List ℕ
  pub is : drop 13 bytes ≡ records bodies ++ rest
  pub there : place ≡ 13 + length (records bodies)

-- At this place no record stands that is due: it is torn, or its body isn't due; or there is none, and one is missing.
pub data IsNotDue (IsUndue : List ℕ → Type 0) (IsMissing : Type 0) (place : ℕ) (bytes : List ℕ) : Type 0 where
  torn : IsTorn place bytes → IsNotDue IsUndue IsMissing place bytes
  other : (body : List ℕ) → StandsAt place body bytes → IsUndue body → IsNotDue IsUndue IsMissing place bytes
  missing : IsMissing → HasClosedGate place bytes → IsNotDue IsUndue IsMissing place bytes

-- the side that is the journal, in this version, holds these bodies up to this place, and there none that is due
pub record BrokenBehind (version : Version) (IsUndue : List ℕ → Type 0) (IsMissing : Type 0) (bodies : List (List ℕ)) (place : ℕ) (files : Files) : Type 0 where
  pub side : Side
  pub generation : ℕ
  pub present : IsPresent side version generation files
  pub up_to : StandUpTo place bodies (file_of side files)
  pub bad : IsNotDue IsUndue IsMissing place (file_of side files)
