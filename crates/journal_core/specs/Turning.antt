-- What a turn does: the other side becomes the journal, with other bodies.
use Rattle.std.specs.Prelude.{ℕ, ◌+◌, true, false, List, length, Result, OnOk}
use Rattle.world_traits.specs.Files.{Files, other}
use Rattle.world_traits.specs.Moments.{Clock}
use Rattle.journal_core.specs.Records.{records}
use Rattle.journal_core.specs.Holds.{Holds}
use Rattle.journal_core.specs.Sides.{version_written}
use Rattle.journal_core.specs.Standing.{Standing, IsStill}
use Rattle.journal_core.specs.Gates.{Passes}

-- the journal behind these bodies on its other side, in the next generation
abbrev pub turned : List (List ℕ) → Standing → Standing
turned bodies journal = record {
  side = other journal.side;
  version = version_written;
  generation = journal.generation + 1;
  place = 13 + length (records bodies);
  all_read = true;
  failed = false;
}

-- Whatever bodies were read: the moments go from images that hold these to images that hold the new ones; and after Ok
-- the journal stands behind the new ones.
pub record Turns {T E : Type 0} (journal after : Standing) (bodies : List (List ℕ)) (old new : Clock) (seen seen_after : Files)
    (result : Result T E) : Type 0 where
  pub passing : (before : List (List ℕ)) → IsStill journal before old.now seen → Passes (Holds journal.version before) (Holds version_written bodies) old new
  pub done : (before : List (List ℕ)) → IsStill journal before old.now seen → OnOk result (IsStill after bodies new.now seen_after)
