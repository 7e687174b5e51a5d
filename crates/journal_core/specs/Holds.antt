-- Which bodies the two files of a journal hold.
use Rattle.std.specs.Prelude.{ℕ, ◌<◌, List}
use Rattle.world_traits.specs.Files.{Files, file_of, other}
use Rattle.world_traits.specs.declared.disk.Side.{Side}
use Rattle.journal_core.specs.declared.version.Version.{Version}
use Rattle.journal_core.specs.Records.{From}
use Rattle.journal_core.specs.Sides.{IsSetUp, HasWrongHeader}

-- This side is the journal: no side has a wrong header, this one is set up in this version and generation, and the
-- other one isn't, or in a lower generation.
pub record IsPresent (side : Side) (version : Version) (generation : ℕ) (files : Files) : Type 0 where
  pub right : (any : Side) → HasWrongHeader (file_of any files) → ⊥
  pub set_up : IsSetUp version generation (file_of side files)
  pub newer : (v : Version) (g : ℕ) → IsSetUp v g (file_of (other side) files) → g < generation

-- the files hold these bodies: those of the records behind the head of the side that is the journal
pub record Holds (version : Version) (bodies : List (List ℕ)) (files : Files) : Type 0 where
  pub side : Side
  pub generation : ℕ
  pub present : IsPresent side version generation files
  pub records : From 13 bodies (file_of side files)
