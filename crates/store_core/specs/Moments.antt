-- What the calls of a store do at every moment.
use Rattle.std.specs.Prelude.{ℕ, List, Some}
use Rattle.world_traits.specs.Moments.{Clock, Since, Within, Narrows, OneSideAtRest}
use Rattle.world_traits.specs.Links.{Any}
use Rattle.journal_core.specs.OneSide.{EachOneSide}
use Rattle.journal_core.specs.Sides.{version_written}
use Rattle.journal_core.specs.declared.version.Version.{Version}
use Rattle.action_queue.specs.Book.{Meaning}
use Rattle.action_queue.specs.declared.event.Event.{Event}
use Rattle.action_queue.specs.declared.event.Event.TheVariants as events
use Rattle.store_core.specs.Mail.{mail}
use Rattle.store_core.specs.Steps.{Books, Firm}
use Rattle.store_core.specs.Taking.{HasBooks, ChoosesStep, IsTaking, Takes, TakesStep, IsCreating, Creates, BeginsStep, BeginsBehind}
use Rattle.store_core.specs.HeldActions.{KeepsActions}

-- A store is opened. No moment has another image than before, and no action that all images hold is lost. Where one side
-- was at rest the books stay, or one is chosen, and one side is at rest at each moment.
pub record OpensStore (old new : Clock) : Type 0 where
  pub told : Narrows old new
  pub held : Since (Within old.now) KeepsActions old new
  pub chooses : OneSideAtRest old.now → (books : Books mail) → HasBooks mail books old.now → Since Any (ChoosesStep mail) old new
  pub one_side : OneSideAtRest old.now → OneSideAtRest new.now
  pub each_one_side : OneSideAtRest old.now → EachOneSide old new

-- A book is begun. A stop leaves no book, or that of the names, and no action that all images hold is lost. Where one side
-- was at rest the first syncs leave the books or choose one; behind them there is none from one moment to the next, or the
-- Begin is begun, or made firm; and one side is at rest at each moment.
pub record BeginsBook (names : List (List ℕ)) (old new : Clock) : Type 0 where
  pub told : Creates mail (events.Begin names) old new
  pub begins : OneSideAtRest old.now → (books : Books mail) → HasBooks mail books old.now → BeginsBehind mail (events.Begin names) old new
  pub steps : OneSideAtRest old.now → (books : Books mail) → HasBooks mail books old.now →
      Since (IsCreating mail (events.Begin names) old.now) (BeginsStep mail version_written (events.Begin names)) old new
  pub held : Since (IsCreating mail (events.Begin names) old.now) KeepsActions old new
  pub one_side : OneSideAtRest old.now → OneSideAtRest new.now
  pub each_one_side : OneSideAtRest old.now → EachOneSide old new

-- An event is recorded. A stop leaves the book before or the one after; the books stay from one moment to the next, or the
-- event is begun, or made firm; no action that all images hold is lost; and one side is at rest at each moment.
pub record RecordsEvent (version : Version) (b : Meaning) (event : Event) (old new : Clock) : Type 0 where
  pub told : Takes mail (Some b) event old new
  pub steps : Since (IsTaking mail (Some b) event) (TakesStep mail version event) old new
  pub held : Since (IsTaking mail (Some b) event) KeepsActions old new
  pub one_side : OneSideAtRest new.now
  pub each_one_side : EachOneSide old new

-- A book is told anew. A stop leaves it, no action that all images hold is lost, and one side is at rest at each moment.
pub record TellsAnew (b : Meaning) (old new : Clock) : Type 0 where
  pub stays : Since (HasBooks mail (Firm (Some b))) (ChoosesStep mail) old new
  pub held : Since (HasBooks mail (Firm (Some b))) KeepsActions old new
  pub one_side : OneSideAtRest new.now
  pub each_one_side : EachOneSide old new
