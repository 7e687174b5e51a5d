-- That over many runs each outcome had its reason in the run that recorded it (this client's profile of RFC 4549, section 4.2).
use Rattle.std.specs.Prelude.{◌≡◌, ◌⊎◌, ℕ, Some, slice_get}
use Rattle.imap_model.specs.Talking.{Connecting}
use Rattle.world_traits.specs.Files.{Files}
use Rattle.world_traits.specs.Links.{Any, Linked}
use Rattle.world_traits.specs.Moments.{Moment, MayLeave, Clock, Since}
use Rattle.action_queue.specs.Book.{Meaning}
use Rattle.action_queue.specs.Queues.{due}
use Rattle.action_queue.specs.declared.event.Event.TheVariants as events
use Rattle.action_queue.specs.declared.outcome.Outcome.{Outcome}
use Rattle.action_queue.specs.declared.queued.Queued.{Queued}
use Rattle.store_core.specs.Mail.{mail}
use Rattle.store_core.specs.Books.{HasBook}
use Rattle.play_driver.specs.Joining.{Grows}
use Rattle.play_driver.specs.Questioning.{RunStep}
use Rattle.play_driver.specs.TrueRecords.{IsTrueSince, TrueEvent}
use Rattle.mail_top.specs.FairRuns.{FollowsFairly}
use Rattle.mail_top.specs.FairRuns.FollowsFairly.{at_once, by_run, by_stop, by_others}
use Rattle.mail_top.specs.TruePlay.{OpensBook, PlaysTruly}
use Rattle.mail_top.specs.Words.{WritesPlay}

-- the book's action at this place ended so
pub record HasEnded (place : ℕ) (outcome : Outcome) (b : Meaning) : Type 0 where
  pub queued : Queued
  pub there : slice_get b.queue place ≡ Some queued
  pub ended : queued.outcome ≡ Some outcome

-- a stop may leave a book whose action at this place ended so
pub record MayHaveEnded (place : ℕ) (outcome : Outcome) (m : Moment) : Type 0 where
  pub files : Files
  pub leaves : MayLeave m files
  pub book : Meaning
  pub holds : HasBook mail book files
  pub ended : HasEnded place outcome book

-- In a run that read these files, in this time of it: that the action at this place ended so was recorded, or was being recorded, behind
-- all that this run recorded before; and it had its reason then.
pub record EndsTruly (place : ℕ) (outcome : Outcome) (seen : Files) (old new : Clock) : Type 0 where
  pub entry : Meaning
  pub opened : Clock
  pub opens : OpensBook entry seen old opened
  pub made : Clock
  pub connects : Linked Connecting opened made
  pub now : Clock
  pub behind : Since Any RunStep made now
  pub book : Meaning
  pub so_far : IsTrueSince entry made now book
  pub id : ℕ
  pub truly : TrueEvent (events.Settle id outcome) entry book made now
  pub due : place ≡ due book.queue
  pub before : Grows now new

-- each of these runs that is a `play` records truly up to where it was cut off, as `run` promises by `server.truly`
abbrev pub AllTrue : (first last : Moment) → FollowsFairly first last → Type 0
AllTrue first last at_once = Unit {0}
AllTrue first last (by_run words input seen old at new so_far reads run) = AllTrue first old.now so_far × (WritesPlay words → PlaysTruly seen old at)
AllTrue first last (by_stop m files so_far leaves) = AllTrue first m so_far
AllTrue first last (by_others m n so_far on) = AllTrue first m so_far

-- the action at this place ended so in one of these runs, up to where it was cut off, with its reason
abbrev pub EndsInOne : ℕ → Outcome → (first last : Moment) → FollowsFairly first last → Type 0
EndsInOne place outcome first last at_once = ⊥
EndsInOne place outcome first last (by_run words input seen old at new so_far reads run) =
    EndsInOne place outcome first old.now so_far ⊎ EndsTruly place outcome seen old at
EndsInOne place outcome first last (by_stop m files so_far leaves) = EndsInOne place outcome first m so_far
EndsInOne place outcome first last (by_others m n so_far on) = EndsInOne place outcome first m so_far
