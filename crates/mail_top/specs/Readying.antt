-- A journal is made ready for playback: it is opened, and where it is of an older version, or grew long, its book is told anew on the journal's
-- other side (this client's profile of RFC 4549, section 4.2).
use Rattle.std.specs.Prelude.{◌≡◌, ◌≢◌, ◌⊎◌, ℕ, ◌*◌, ◌-◌, ◌^◌, ◌≤◌, ◌<◌, Some}
use Rattle.world_traits.specs.Files.{Files}
use Rattle.world_traits.specs.Links.{Any}
use Rattle.world_traits.specs.Moments.{Moment, Clock, Images, OneSideAtRest, Since, Within}
use Rattle.journal_core.specs.Appending.{end_with}
use Rattle.journal_core.specs.Creating.{end_of}
use Rattle.journal_core.specs.OneSide.{EachOneSide}
use Rattle.journal_core.specs.Limits.{max_side}
use Rattle.journal_core.specs.Sides.{version_written}
use Rattle.action_queue.specs.Book.{Meaning}
use Rattle.record_codec.specs.Restated.{restated_end}
use Rattle.store_core.specs.Anew.{told_on}
use Rattle.store_core.specs.Mail.{mail}
use Rattle.store_core.specs.Books.{HasBook}
use Rattle.store_core.specs.Broken.{IsBroken}
use Rattle.store_core.specs.HeldActions.{KeepsActions}
use Rattle.store_core.specs.Holding.{Holding, IsAsLeft}
use Rattle.store_core.specs.Steps.{Books, Firm}
use Rattle.store_core.specs.Taking.{HasBooks, ChoosesStep}
use Rattle.mail_top.specs.Course.{Course, Keeps, Stays}
use Rattle.mail_top.specs.KeptNow.{IsKeptNow}
use Rattle.mail_top.specs.Takeover.{IsNotTakenAs}
use Rattle.mail_top.specs.declared.refusal.Refusal.{Refusal}
use Rattle.mail_top.specs.declared.refusal.Refusal.TheVariants as refusals

-- A journal that ends here, in this generation, with this book, is told anew: it ends past 4,096 bytes, a generation is to come, and told
-- anew it takes at most half of them, and fits a side. (No journal that this client writes ends past what fits a side.)
pub record IsLong (end generation : ℕ) (book : Meaning) : Type 0 where
  pub long : 4096 < end
  pub more : generation < 2 ^ 32 - 1
  pub half : 2 * restated_end book ≤ end
  pub fits : restated_end book ≤ max_side

-- the files hold such a journal, or one of another version than the one that is written
pub record IsTurnDue (files : Files) : Type 0 where
  pub book : Meaning
  pub holds : HasBook mail book files
  pub due : (holds.version ≢ version_written) ⊎ IsLong (end_of holds.bodies) holds.holds.generation book

-- a store's journal is long
abbrev pub IsLongFor : Holding mail → Type 0
IsLongFor store = IsLong (end_with 0 store.journal) store.journal.generation store.book

-- or it is of another version
abbrev pub IsDueFor : Holding mail → Type 0
IsDueFor store = (store.journal.version ≢ version_written) ⊎ IsLongFor store

-- no stop leaves such a journal
abbrev pub NoTurnDue : Moment → Type 0
NoTurnDue m = Images (λ files. IsTurnDue files → ⊥) m

-- the files as read hold a book, and each stop leaves it
pub record LeavesBook (seen : Files) (m : Moment) : Type 0 where
  pub book : Meaning
  pub holds : HasBook mail book seen
  pub leaves : HasBooks mail (Firm (Some book)) m

-- a stop leaves what one at entry could have left, or the book as read
abbrev pub LeavesRead : Moment → Files → Moment → Type 0
LeavesRead entry seen m = Within entry m ⊎ LeavesBook seen m

-- What it does at every moment: a stop leaves what one at entry could have left, or the book as read, and no action that all images hold is
-- lost. Where one side was at rest the books stay, or one is chosen, and one side is at rest at each moment. A book that is kept stays so.
pub record Readies (old new : Clock) (seen : Files) : Type 0 where
  pub keeps : Since (LeavesRead old.now seen) KeepsActions old new
  pub chooses : OneSideAtRest old.now → (books : Books mail) → HasBooks mail books old.now → Since Any (ChoosesStep mail) old new
  pub one_side : OneSideAtRest old.now → OneSideAtRest new.now
  pub each_one_side : OneSideAtRest old.now → EachOneSide old new
  pub kept : IsKeptNow old.now → IsKeptNow new.now

-- The files as read held a journal that is to be told anew, behind whose last record a store stood: this store's book was told anew on
-- that journal's other side.
pub record IsToldAnew (seen : Files) (store : Holding mail) : Type 0 where
  pub due : IsTurnDue seen
  pub before : Holding mail
  pub at : Moment
  pub stood : IsAsLeft mail before at seen
  pub is : store.journal ≡ told_on (restated_end store.book) before.journal

-- The files as read held no journal that is to be told anew, so the store was opened on them, and no more was done.
pub record IsJustOpened (entry at : Moment) (seen files : Files) : Type 0 where
  pub never : IsTurnDue seen → ⊥
  pub within : Within entry at
  pub same : files ≡ seen

-- This store's book is the one that the files hold as read. It was told anew exactly where their journal is to be; and else the store was
-- opened on them. So the disk stood behind its last record, where a stop left what one at entry could have left, or the book as read, and no
-- journal that is to be told anew.
pub record IsOpened (entry : Moment) (seen : Files) (store : Holding mail) : Type 0 where
  pub holds : HasBook mail store.book seen
  pub at : Moment
  pub files : Files
  pub stood : IsAsLeft mail store at files
  pub leaves : LeavesRead entry seen at
  pub ready : NoTurnDue at
  pub how : IsJustOpened entry at seen files ⊎ IsToldAnew seen store

-- The files as read hold a book that isn't taken over for this limit, and a stop leaves it.
pub record IsLeftOlder (k : Course) (refusal : Refusal) : Type 0 where
  pub book : Meaning
  pub stays : Stays k book
  pub limit : IsNotTakenAs stays.holds.version stays.holds.holds.generation book refusal

-- Why it isn't ready: memory is wanting, or the disk failed; or the files hold no book, or one of an older version that isn't taken over. Unless
-- the disk failed they are as before.
abbrev pub IsUnready : Course → Refusal → Type 0
IsUnready k refusals.Memory = Keeps k
IsUnready k refusals.Disk = LeavesRead k.old.now k.seen k.new.now
IsUnready k (refusals.NotAJournal why) = Keeps k × IsBroken mail why k.seen
IsUnready k (refusals.Full end) = IsLeftOlder k (refusals.Full end)
IsUnready k refusals.Generation = IsLeftOlder k refusals.Generation
IsUnready k refusals.Input = ⊥
IsUnready k refusals.Already = ⊥
IsUnready k (refusals.Reason reason) = ⊥
IsUnready k refusals.Actions = ⊥
