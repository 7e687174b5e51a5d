-- What syncing both files does at every moment, where one side is on the disk.
use Rattle.std.specs.Prelude.{◌≡◌, ◌⊎◌}
use Rattle.world_traits.specs.Files.{Files}
use Rattle.world_traits.specs.Moments.{Clock, Narrows, OneSideAtRest, Rests, Since}
use Rattle.journal_core.specs.OneSide.{EachOneSide}

-- each added moment is that of entry, or has all on the disk that is read; and each step leaves it so, or comes there
abbrev pub Settles : Clock → Clock → Files → Type 0
Settles old new seen = Since (λ m. (m ≡ old.now) ⊎ Rests m seen) (λ m n. (n ≡ m) ⊎ Rests n seen) old new

-- What syncing both files, and then reading them, does at every moment: each image of each moment was one before. Where one
-- side was on the disk, so it is at each moment, and the moments come from that of entry to what is read.
pub record Syncs (old new : Clock) (seen : Files) : Type 0 where
  pub told : Narrows old new
  pub exact : OneSideAtRest old.now → Settles old new seen
  pub one_side : OneSideAtRest old.now → OneSideAtRest new.now
  pub each_one_side : OneSideAtRest old.now → EachOneSide old new
