-- What syncing both files does at every moment, in one record.
use Rattle.world_traits.specs.Files.{Files}
use Rattle.world_traits.specs.Moments.{Clock, Narrows, OneSideAtRest}
use Rattle.journal_core.specs.Reading.{OnlyLooks}
use Rattle.journal_core.specs.Settling.{Settles, Syncs}
use Rattle.journal_core.proofs.AtRest.{settles_one, settles_each}
use Rattle.journal_core.proofs.Looking.{narrows_look, settles_look}

pub syncs_of : (k l : Clock) (seen : Files) → Narrows k l → (OneSideAtRest k.now → Settles k l seen) → Syncs k l seen
syncs_of k l seen narrows settles = record {
  told = narrows;
  exact = settles;
  one_side = λ one. settles_one k l seen one (settles one);
  each_one_side = λ one. settles_each k l seen one (settles one);
}

-- to look after syncs does no more
pub syncs_look : (k l n : Clock) (seen f g : Files) → Syncs k l seen → OnlyLooks l n f g → Syncs k n seen
syncs_look k l n seen f g syncs looks =
    syncs_of k n seen (narrows_look k l n f g syncs.told looks) (λ one. settles_look k seen l n f g (syncs.exact one) looks)
