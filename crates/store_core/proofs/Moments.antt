-- What the calls of a store do at every moment, from what those of its journal do.
use Rattle.std.proofs.Common.{◌≡◌, ℕ, List, [], ◌∷◌, Some}
use Rattle.world_traits.specs.Files.{Files, other}
use Rattle.world_traits.specs.Moments.{Clock, MayLeave, Rests, Since, stored}
use Rattle.world_traits.specs.declared.disk.Side.{Side}
use Rattle.world_traits.proofs.Passing.{since_start}
use Rattle.journal_core.specs.Creating.{CreatesJournal}
use Rattle.journal_core.specs.OneSide.{EachOneSide, IsAside, SideAtRest}
use Rattle.journal_core.specs.Settling.{Syncs}
use Rattle.journal_core.proofs.AtRest.{each_none, rests_side, still_rests}
use Rattle.action_queue.specs.Book.{Meaning}
use Rattle.action_queue.specs.Events.{AreNames}
use Rattle.action_queue.specs.declared.event.Event.{Event}
use Rattle.action_queue.specs.declared.event.Event.TheVariants as events
use Rattle.record_codec.specs.Spelling.{Spelled}
use Rattle.store_core.specs.Mail.{mail, MayCome}
use Rattle.store_core.specs.Steps.{Firm}
use Rattle.store_core.specs.Holding.{Holding, IsAsLeft}
use Rattle.store_core.specs.Taking.{HasBooks, ChoosesStep, Takes}
use Rattle.store_core.specs.HeldActions.{KeepsActions}
use Rattle.store_core.specs.Moments.{OpensStore, BeginsBook, RecordsEvent, TellsAnew}
use Rattle.store_core.proofs.AtRest.{left_one, append_one}
use Rattle.store_core.proofs.Beginning.{creates, creates_held, begins_behind, begins_none, begins_steps}
use Rattle.store_core.proofs.Entering.{narrows_held}
use Rattle.store_core.proofs.Opens.{settles_chooses}
use Rattle.store_core.proofs.Phases.{steps_of, held_of}

pub opening_moments : (k l : Clock) (seen : Files) → MayLeave k.now seen → Syncs k l seen → OpensStore k l
opening_moments k l seen leaves syncs = record {
  told = syncs.told;
  held = narrows_held k l syncs.told;
  chooses = λ one books has. settles_chooses mail books k seen has leaves l (syncs.exact one) syncs.told;
  one_side = syncs.one_side;
  each_one_side = syncs.each_one_side;
}

-- a book that isn't begun yet
pub begins_no_book : (names : List (List ℕ)) (k : Clock) → BeginsBook names k k
begins_no_book names k = record {
  told = since_start _ _ k;
  begins = λ one books has. begins_none names k;
  steps = λ one books has. since_start _ _ k;
  held = since_start _ _ k;
  one_side = λ one. one;
  each_one_side = λ one. each_none k;
}

pub begins_book : (body : List ℕ) (names : List (List ℕ)) (are : AreNames names) (is : Spelled body (events.Begin names)) (k l : Clock) (seen : Files) →
    MayLeave k.now seen → (bodies : List (List ℕ)) → bodies ≡ body ∷ [] → CreatesJournal bodies k l seen → BeginsBook names k l
begins_book body names are is k l seen leaves bodies one made = record {
  told = creates body names are is k l bodies one made.told;
  begins = λ rests books has. begins_behind body names are is k l seen leaves books has bodies one (made.exact rests);
  steps = λ rests books has. begins_steps names are k l (creates body names are is k l bodies one made.told)
      (begins_behind body names are is k l seen leaves books has bodies one (made.exact rests));
  held = creates_held body names are is k l bodies one made.told;
  one_side = made.one_side;
  each_one_side = made.each_one_side;
}

module _ (now : Holding mail) (event : Event) (k : Clock) (seen : Files) (left : IsAsLeft mail now k.now seen) where
  -- an event that wasn't written
  pub records_none : RecordsEvent now.journal.version now.book event k k
  records_none = record {
    told = since_start _ _ k;
    steps = since_start _ _ k;
    held = since_start _ _ k;
    one_side = left_one mail now k.now seen left;
    each_one_side = each_none k;
  }

  pub records_event : MayCome now.journal.version (Some now.book) event → (side : Side) (l : Clock) → Takes mail (Some now.book) event k l →
      IsAside side k l → RecordsEvent now.journal.version now.book event k l
  records_event may side l takes aside = record {
    told = takes;
    steps = steps_of mail now.journal.version now.book event may k l takes;
    held = held_of now.book event k l takes;
    one_side = append_one mail now side k.now l.now seen left aside.beside;
    each_one_side = aside.each (rests_side (other side) k.now seen left.still.rests);
  }

pub tells_anew : (b : Meaning) (side : Side) (k l : Clock) (seen : Files) → Rests k.now seen →
    Since (HasBooks mail (Firm (Some b))) (ChoosesStep mail) k l → Since (HasBooks mail (Firm (Some b))) KeepsActions k l →
    stored side l.now ≡ stored side k.now → (SideAtRest side k.now → EachOneSide k l) → TellsAnew b k l
tells_anew b side k l seen rests stays held same each = record {
  stays = stays;
  held = held;
  one_side = record { side = side; rests = still_rests side k.now l.now same (rests_side side k.now seen rests) };
  each_one_side = each (rests_side side k.now seen rests);
}

-- a book that wasn't told anew
pub tells_none : (now : Holding mail) (k : Clock) (seen : Files) → IsAsLeft mail now k.now seen → TellsAnew now.book k k
tells_none now k seen left = record {
  stays = since_start _ _ k;
  held = since_start _ _ k;
  one_side = left_one mail now k.now seen left;
  each_one_side = each_none k;
}
