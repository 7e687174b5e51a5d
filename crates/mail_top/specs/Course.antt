-- What a command finds on the disk and of the link, and what it leaves there.
use Rattle.std.specs.Prelude.{◌≡◌, ℕ, ◌+◌, List, length, Some}
use Rattle.world_traits.specs.Files.{Files}
use Rattle.world_traits.specs.LinkState.{LinkState}
use Rattle.world_traits.specs.Moments.{Clock, Within}
use Rattle.world_traits.specs.declared.clocked.Clocked.{Ghosts}
use Rattle.mail_base.specs.Bodies.{frame_of}
use Rattle.journal_core.specs.Records.{records}
use Rattle.journal_core.specs.Sides.{version_written}
use Rattle.journal_core.specs.declared.version.Version.{Version}
use Rattle.journal_core.specs.declared.version.Version.TheVariants.{First, Second}
use Rattle.action_queue.specs.Book.{Meaning}
use Rattle.action_queue.specs.declared.event.Event.{Event}
use Rattle.record_codec.specs.Bodies.{body_of}
use Rattle.record_codec.specs.Restated.{restated_end}
use Rattle.store_core.specs.Mail.{mail}
use Rattle.store_core.specs.Books.{HasBook}
use Rattle.store_core.specs.Steps.{Firm}
use Rattle.store_core.specs.Taking.{HasBooks}

-- the clock, what the files read as, and the link, each at entry and now
pub record Course : Type 0 where
  pub old : Clock
  pub new : Clock
  pub seen : Files
  pub seen_after : Files
  pub link : LinkState
  pub link_after : LinkState

-- the course of a call that takes a world from one state to another, which read as these files
abbrev pub course_of : {Self : Type 0} → Ghosts Self → (Self → Files) → Self → Self → Course
course_of W seen old new = record {
  old = W.clock old;
  new = W.clock new;
  seen = seen old;
  seen_after = seen new;
  link = W.link old;
  link_after = W.link new;
}

-- a stop leaves what one at entry could have left, and the files read as before
pub record Keeps (k : Course) : Type 0 where
  pub leaves : Within k.old.now k.new.now
  pub reads : k.seen_after ≡ k.seen

-- the files as read hold this book, and from now on each stop leaves it
pub record Stays (k : Course) (b : Meaning) : Type 0 where
  pub holds : HasBook mail b k.seen
  pub leaves : HasBooks mail (Firm (Some b)) k.new.now
  pub reads : k.seen_after ≡ k.seen

-- so it came with the files alone: the link is as it was, and so is all that isn't on the disk
pub record OnFiles (k : Course) (Says : Type 0) : Type 0 where
  pub link : k.link_after ≡ k.link
  pub outside : k.new.now.outside ≡ k.old.now.outside
  pub says : Says

-- The files as read hold this book, and from now on each stop leaves it. They read as before, where its journal was of the version that is
-- written; and else they hold it in that version now.
pub record StaysWritten (k : Course) (b : Meaning) : Type 0 where
  pub holds : HasBook mail b k.seen
  pub leaves : HasBooks mail (Firm (Some b)) k.new.now
  pub reads : holds.version ≡ version_written → k.seen_after ≡ k.seen
  pub after : HasBook mail b k.seen_after
  pub written : after.version ≡ version_written

-- where the journal that is written to ends: behind these bodies, or, where they are of an older version, behind those that tell the book anew
abbrev pub end_written : Version → List (List ℕ) → Meaning → ℕ
end_written First bodies b = restated_end b
end_written Second bodies b = 14 + length (records bodies)

-- where it would end with an event's record behind the others: behind the next closed gate
abbrev pub end_behind : {b : Meaning} {files : Files} → HasBook mail b files → Event → ℕ
end_behind {b} holds event = end_written holds.version holds.bodies b + length (frame_of (body_of event))
