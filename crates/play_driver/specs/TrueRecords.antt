-- That what a run records of an action is true (this client's profile of RFC 4549, section 4.2).
use Rattle.std.specs.Prelude.{◌≡◌, ◌∷◌, Some}
use Rattle.action_queue.specs.Book.{Meaning, after}
use Rattle.action_queue.specs.Events.{IsLawful}
use Rattle.action_queue.specs.declared.event.Event.{Event}
use Rattle.imap_model.specs.Talking.{Connecting}
use Rattle.imap_model.specs.declared.server.Server.{Server}
use Rattle.playback.specs.Course.{Course, IsAmong, IsCourse, Said}
use Rattle.playback.specs.Why.{WhyEvent}
use Rattle.store_core.specs.Mail.{mail}
use Rattle.store_core.specs.Steps.{Firm}
use Rattle.store_core.specs.Taking.{HasBooks, Takes}
use Rattle.world_traits.specs.Links.{Any, Linked}
use Rattle.world_traits.specs.Moments.{Clock, Since}
use Rattle.play_driver.specs.Joining.{AnyTwo}
use Rattle.play_driver.specs.KnownAt.{WasAnswered, WasServer}
use Rattle.play_driver.specs.Progress.{IsPlayEvent}
use Rattle.play_driver.specs.Questioning.{RunStep}

-- An event of playback may be recorded now behind this book, which each stop leaves, and it has its reason, in a run that began with the
-- entry's book: over a course whose servers are those of moments since the run's connection was made, and in which what was said was told
-- there.
pub record TrueEvent (event : Event) (entry b : Meaning) (made now : Clock) : Type 0 where
  pub of_play : IsPlayEvent event
  pub lawful : IsLawful b event
  pub books : HasBooks mail (Firm (Some b)) now.now
  pub course : Course
  pub is_course : IsCourse course
  pub first : course.first ≡ made.now.outside.server
  pub last : course.now ≡ now.now.outside.server
  pub each : (s : Server) → IsAmong s (course.now ∷ course.past) → WasServer s made now
  pub answered : (e : Said) → IsAmong e course.said → WasAnswered e made now
  pub why : WhyEvent event entry b course

-- each stop leaves this book at each moment of the time between
abbrev pub BookRests : Meaning → Clock → Clock → Type 0
BookRests b old new = Since (HasBooks mail (Firm (Some b))) AnyTwo old new

-- All that was recorded since the connection was made, from the entry's book to this one: a stop leaves a book, or the book is taken to
-- the one behind an event that had its reason then.
pub data IsTrueSince (entry : Meaning) (made : Clock) : Clock → Meaning → Type 0 where
  enters : IsTrueSince entry made made entry
  rests : (at now : Clock) (b : Meaning) → IsTrueSince entry made at b → BookRests b at now → IsTrueSince entry made now b
  records : (at now : Clock) (b : Meaning) (event : Event) → IsTrueSince entry made at b → TrueEvent event entry b made at →
      Takes mail (Some b) event at now → IsTrueSince entry made now (after b event)

-- The same, and then a record that a stop left, or the disk failed in: before it or behind it.
pub record IsTrueBefore (event : Event) (entry b : Meaning) (made now : Clock) : Type 0 where
  pub at : Clock
  pub so_far : IsTrueSince entry made at b
  pub truly : TrueEvent event entry b made at
  pub takes : Takes mail (Some b) event at now

-- So it was in a run over this time: up to a clock it made its connection, behind which none was made, and the rest was so. (Where none
-- was made that is the last clock.)
pub record RecordsTruly (entry b : Meaning) (old new : Clock) : Type 0 where
  pub made : Clock
  pub connects : Linked Connecting old made
  pub behind : Since Any RunStep made new
  pub truly : IsTrueSince entry made new b

-- And so it was where the disk failed in a record.
pub record StopsTruly (entry b : Meaning) (old new : Clock) : Type 0 where
  pub event : Event
  pub made : Clock
  pub connects : Linked Connecting old made
  pub behind : Since Any RunStep made new
  pub truly : IsTrueBefore event entry b made new
