-- That one side of the journal is at rest.
use Rattle.world_traits.specs.Moments.{Clock, OneSideAtRest}
use Rattle.journal_core.specs.OneSide.{EachOneSide}

-- Where one side was at rest, one is at the end and at each moment: so a later run's syncs come to what it reads, wherever this one is
-- cut off.
pub record KeepsOneSide (old new : Clock) : Type 0 where
  pub one_side : OneSideAtRest old.now → OneSideAtRest new.now
  pub each_one_side : OneSideAtRest old.now → EachOneSide old new
