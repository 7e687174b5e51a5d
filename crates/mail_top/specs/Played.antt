-- What is said of how `play` ended (RFC 4549, section 4.2; RFC 7162, section 3.2.5).
use Rattle.std.specs.Prelude.{◌≡◌, ℕ, List, Some}
use Rattle.mail_base.specs.Account.{Credentials}
use Rattle.mail_base.specs.declared.status.Status.{Status}
use Rattle.mail_base.specs.declared.status.Status.TheVariants as status
use Rattle.world_traits.specs.Files.{Files}
use Rattle.world_traits.specs.Moments.{Moment, Clock}
use Rattle.action_queue.specs.Book.{Meaning}
use Rattle.action_queue.specs.Queues.{AllSettled}
use Rattle.action_queue.specs.declared.event.Event.{Event}
use Rattle.store_core.specs.Mail.{mail}
use Rattle.store_core.specs.Books.{HasBook}
use Rattle.store_core.specs.Holding.{Holding, IsAsLeft}
use Rattle.store_core.specs.Steps.{Firm}
use Rattle.store_core.specs.Taking.{HasBooks, IsTaking}
use Rattle.play_driver.specs.Counted.{played_since}
use Rattle.play_driver.specs.Playing.{Plays, EndsEarly}
use Rattle.play_driver.specs.Progress.{IsLater, IsPlayEvent, IsPlaying}
use Rattle.play_driver.specs.Settled.{AreSyncedBehind}
use Rattle.play_driver.specs.declared.fault.PlayFault.{PlayFault}
use Rattle.play_driver.specs.declared.fault.PlayFault.TheVariants as faults
use Rattle.mail_top.specs.Course.{Course}
use Rattle.mail_top.specs.Readying.{IsOpened}
use Rattle.mail_top.specs.Telling.{status_of_conflicts, status_of_fault, text_of_fault}
use Rattle.conflict_report.specs.StatusLines.{played}

-- The run went from the store that was made ready, behind the journal's last record, to this later one, in which each action has an
-- outcome and each that was there stands. The files hold its book now, and each stop leaves it. Status and text tell how many actions
-- were settled, and how many of them as conflicts.
pub record SaysPlayed (account : Credentials) (k : Course) (s : Status) (text : List ℕ) : Type 0 where
  pub opened : Holding mail
  pub read : IsOpened k.old.now k.seen opened
  pub store : Holding mail
  pub plays : Plays account opened store k.link_after
  pub later : IsLater opened.book store.book
  pub settled : AllSettled store.book.queue
  pub left : IsAsLeft mail store k.new.now k.seen_after
  pub holds : HasBook mail store.book k.seen_after
  pub leaves : HasBooks mail (Firm (Some store.book)) k.new.now
  pub status_is : s ≡ status_of_conflicts (played_since opened.book store.book).conflicts
  pub text_is : text ≡ played (played_since opened.book store.book).settled (played_since opened.book store.book).conflicts

-- Each image holds this book, or the one behind an event of playback.
pub record IsTakingOne (b : Meaning) (m : Moment) : Type 0 where
  pub event : Event
  pub of_play : IsPlayEvent event
  pub taking : IsTaking mail (Some b) event m

-- The run went from the store that was made ready, behind the journal's last record, to this later one, and ended early, by a fault of
-- this status and this text. A stop leaves the book as read, or one further on. Unless the disk failed the files are as the store
-- left them; and else a stop leaves its book, or the one behind an event of playback.
pub record SaysStopped (account : Credentials) (k : Course) (s : Status) (text : List ℕ) : Type 0 where
  pub opened : Holding mail
  pub read : IsOpened k.old.now k.seen opened
  pub fault : PlayFault
  pub store : Holding mail
  pub early : EndsEarly account opened store k.link k.link_after fault
  pub later : IsLater opened.book store.book
  pub leaves : IsPlaying opened.book k.new.now
  pub left : (fault ≡ faults.Disk → ⊥) → IsAsLeft mail store k.new.now k.seen_after
  pub stopped : fault ≡ faults.Disk → IsTakingOne store.book k.new.now
  pub status_is : s ≡ status_of_fault fault
  pub text_is : text ≡ text_of_fault fault

-- by this status a command came to its end, whether its text was printed or not
abbrev pub CameThrough : Status → Type 0
CameThrough status.Done = Unit {0}
CameThrough status.Conflicts = Unit {0}
CameThrough status.Output = Unit {0}
CameThrough status.Words = ⊥
CameThrough status.Disk = ⊥
CameThrough status.Link = ⊥
CameThrough status.Refused = ⊥
CameThrough status.Reply = ⊥
CameThrough status.Lacking = ⊥
CameThrough status.Validity = ⊥
CameThrough status.Journal = ⊥
CameThrough status.Reason = ⊥
CameThrough status.Memory = ⊥
CameThrough status.Limit = ⊥
CameThrough status.Input = ⊥
CameThrough status.Shelf = ⊥

-- The files hold a book. Behind a moment of this time at which every action had an outcome, each of its mailboxes has a cache that is
-- the server's as it last answered for its rows.
pub record AreSynced (files : Files) (old new : Clock) : Type 0 where
  pub book : Meaning
  pub holds : HasBook mail book files
  pub behind : AreSyncedBehind old new book
