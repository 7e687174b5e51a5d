-- What a journal in use is seen as.
use Rattle.std.specs.Prelude.{◌≡◌, ◌≢◌, ℕ, Bool, IsTrue, List, ◌∷◌, ◌++◌, length}
use Rattle.world_traits.specs.Files.{Files, file_of}
use Rattle.world_traits.specs.Moments.{Moment, Rests}
use Rattle.world_traits.specs.declared.disk.Side.{Side}
use Rattle.journal_core.specs.declared.version.Version.{Version}
use Rattle.journal_core.specs.Holds.{IsPresent}
use Rattle.journal_core.specs.Records.{AreBodies, records}
use Rattle.journal_core.specs.Sides.{head_of}

-- the side that is the journal, its version and generation, the place of the next gate, whether all records were
-- read, and whether the disk failed in an append
pub record Standing : Type 0 where
  pub side : Side
  pub version : Version
  pub generation : ℕ
  pub place : ℕ
  pub all_read : Bool
  pub failed : Bool

-- The disk stands as the journal's last call left it: all that is read is on the disk, and the next gate stands
-- behind the head and the records of these bodies. It is closed where all were read.
pub record IsStill (journal : Standing) (bodies : List (List ℕ)) (m : Moment) (seen : Files) : Type 0 where
  pub rests : Rests m seen
  pub present : IsPresent journal.side journal.version journal.generation seen
  pub sizes : AreBodies bodies
  pub gate : ℕ
  pub rest : List ℕ
  pub is : file_of journal.side seen ≡ head_of journal.version journal.generation ++ records bodies ++ gate ∷ rest
  pub next : journal.place ≡ length (head_of journal.version journal.generation ++ records bodies)
  pub closed : IsTrue journal.all_read → gate ≢ 1
