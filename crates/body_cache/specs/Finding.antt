-- What a book as read says of a message or a mailbox that is asked for.
use Rattle.std.specs.Prelude.{◌≡◌, ℕ, List, Some, Ok, Err}
use Rattle.mail_base.specs.Lines.{error_disk, error_memory}
use Rattle.world_traits.specs.Links.{AnyStep, Linked}
use Rattle.world_traits.specs.Moments.{Clock, Within}
use Rattle.world_traits.specs.declared.clocked.Clocked.{Ghosts}
use Rattle.imap_session.specs.Enquiring.{Enquiring}
use Rattle.play_driver.specs.Accuses.{ConnectsOnce}
use Rattle.action_queue.specs.Book.{Meaning}
use Rattle.store_core.specs.Books.{HasBook}
use Rattle.store_core.specs.Mail.{mail}
use Rattle.store_core.specs.Steps.{Firm}
use Rattle.store_core.specs.Taking.{HasBooks}
use Rattle.mail_top.specs.Course.{Course}
use Rattle.mail_top.specs.Saying.{SaysBroken, SaysDisk, SaysMemory}
use Rattle.mail_top.specs.Showing.{IsOfReading, OnlyReads}
use Rattle.mail_top.specs.Telling.{line_of}
use Rattle.mail_top.specs.declared.refusal.Refusal.TheVariants as refusals
use Rattle.body_cache.specs.Keys.{key_in}
use Rattle.body_cache.specs.declared.key.Key.{Key}
use Rattle.body_cache.specs.declared.reading.ReadReason.{ReadReason}
use Rattle.body_cache.specs.declared.refused.ReadFault.{ReadFault}
use Rattle.body_cache.specs.declared.refused.ReadFault.TheVariants as faults

-- The files as read hold this book, and from now on each stop leaves it.
pub record Reads (k : Course) (b : Meaning) : Type 0 where
  pub holds : HasBook mail b k.seen
  pub leaves : HasBooks mail (Firm (Some b)) k.new.now

-- the message has this key in the book as read
pub record Finds (name : List ℕ) (uid : ℕ) (k : Course) (key : Key) : Type 0 where
  pub book : Meaning
  pub reads : Reads k book
  pub is : key_in book name uid ≡ Ok key

-- it has none there, for this reason
pub record FindsNone (name : List ℕ) (uid : ℕ) (k : Course) (reason : ReadReason) : Type 0 where
  pub book : Meaning
  pub reads : Reads k book
  pub is : key_in book name uid ≡ Err reason

-- Why no key was found: the files hold no book, memory is wanting, or the disk failed; or the book has none. No other fault comes.
abbrev pub NotFound : List ℕ → ℕ → Course → ReadFault → Type 0
NotFound name uid k (faults.Refused (refusals.NotAJournal why)) = SaysBroken k (line_of why)
NotFound name uid k (faults.Refused refusals.Memory) = SaysMemory k error_memory
NotFound name uid k (faults.Refused refusals.Disk) = SaysDisk (Within k.old.now k.new.now) error_disk
NotFound name uid k (faults.Refused refusals.Input) = ⊥
NotFound name uid k (faults.Refused refusals.Already) = ⊥
NotFound name uid k (faults.Refused (refusals.Reason reason)) = ⊥
NotFound name uid k (faults.Refused refusals.Actions) = ⊥
NotFound name uid k (faults.Refused (refusals.Full end)) = ⊥
NotFound name uid k (faults.Refused refusals.Generation) = ⊥
NotFound name uid k (faults.Reason reason) = FindsNone name uid k reason
NotFound name uid k (faults.Stopped fault) = ⊥
NotFound name uid k (faults.Renewed line) = ⊥
NotFound name uid k faults.Shelf = ⊥

-- the faults of looking for a key, whatever the disk tells
abbrev pub ComesOfFinding : ReadFault → Type 0
ComesOfFinding (faults.Refused refusal) = IsOfReading refusal
ComesOfFinding (faults.Reason reason) = Unit {0}
ComesOfFinding (faults.Stopped fault) = ⊥
ComesOfFinding (faults.Renewed line) = ⊥
ComesOfFinding faults.Shelf = ⊥

-- Nothing is written: up to a first clock the journal is opened, and behind it the files stay as they are, while questions are asked, if any is. One
-- connection is made at most.
pub record OnlyLooks {Self : Type 0} (W : Ghosts Self) (old new : Self) : Type 0 where
  pub opened : Clock
  pub opens : OnlyReads (W.clock old) opened
  pub outside : opened.now.outside ≡ (W.clock old).now.outside
  pub files : Linked AnyStep opened (W.clock new)
  pub asks : W.tells_server → Linked Enquiring opened (W.clock new)
  pub once : ConnectsOnce (W.link old) (W.link new)
