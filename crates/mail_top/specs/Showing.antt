-- What comes of a book that is to be shown: the journal is opened, and something is made of its book.
use Rattle.std.specs.Prelude.{◌≡◌, ℕ, true, false, List, Option, Some, None, Result, Ok, Err}
use Rattle.mail_base.specs.Lines.{error_disk, error_memory}
use Rattle.world_traits.specs.Links.{Any}
use Rattle.world_traits.specs.Moments.{Clock, OneSideAtRest, Since, Within}
use Rattle.journal_core.specs.OneSide.{EachOneSide}
use Rattle.action_queue.specs.Book.{Meaning}
use Rattle.action_queue.specs.Rules.{is_unknown}
use Rattle.local_view.specs.Listing.{view}
use Rattle.store_core.specs.HeldActions.{KeepsActions}
use Rattle.store_core.specs.Mail.{mail}
use Rattle.store_core.specs.Steps.{Books}
use Rattle.store_core.specs.Taking.{HasBooks, ChoosesStep}
use Rattle.mail_top.specs.Course.{Course, Stays}
use Rattle.mail_top.specs.Saying.{SaysBroken, SaysDisk, SaysMemory}
use Rattle.mail_top.specs.Telling.{line_of}
use Rattle.mail_top.specs.Texts.{rows_text}
use Rattle.mail_top.specs.declared.refusal.Refusal.{Refusal}
use Rattle.mail_top.specs.declared.refusal.Refusal.TheVariants as refusals

-- the files as read hold a book, which stays, and this shows it
pub record Shows {T : Type 0} (Fits : Meaning → T → Type 0) (k : Course) (shown : T) : Type 0 where
  pub book : Meaning
  pub stays : Stays k book
  pub fits : Fits book shown

-- What an answer says of the book that was to be shown: this shows it; or the files hold none, memory is wanting, or the disk failed.
-- No other refusal comes.
abbrev pub EndsShowing : {T : Type 0} → (Meaning → T → Type 0) → Course → Result T Refusal → Type 0
EndsShowing Fits k (Ok shown) = Shows Fits k shown
EndsShowing Fits k (Err (refusals.NotAJournal why)) = SaysBroken k (line_of why)
EndsShowing Fits k (Err refusals.Memory) = SaysMemory k error_memory
EndsShowing Fits k (Err refusals.Disk) = SaysDisk (Within k.old.now k.new.now) error_disk
EndsShowing Fits k (Err refusals.Input) = ⊥
EndsShowing Fits k (Err refusals.Already) = ⊥
EndsShowing Fits k (Err (refusals.Reason reason)) = ⊥
EndsShowing Fits k (Err refusals.Actions) = ⊥
EndsShowing Fits k (Err (refusals.Full end)) = ⊥
EndsShowing Fits k (Err refusals.Generation) = ⊥

-- the refusals of a journal that is only read
abbrev pub IsOfReading : Refusal → Type 0
IsOfReading (refusals.NotAJournal why) = Unit {0}
IsOfReading refusals.Memory = Unit {0}
IsOfReading refusals.Disk = Unit {0}
IsOfReading refusals.Input = ⊥
IsOfReading refusals.Already = ⊥
IsOfReading (refusals.Reason reason) = ⊥
IsOfReading refusals.Actions = ⊥
IsOfReading (refusals.Full end) = ⊥
IsOfReading refusals.Generation = ⊥

-- Nothing is written: at each moment a stop leaves what one at the start could have left; no step loses an action that all images
-- hold, nor changes what isn't on the disk. Where one side was at rest, one is so at the end and at each moment, and from each
-- moment to the next the books that a stop may leave stay, or one of two is chosen.
pub record OnlyReads (old new : Clock) : Type 0 where
  pub keeps : Since (Within old.now) KeepsActions old new
  pub books : OneSideAtRest old.now → (books : Books mail) → HasBooks mail books old.now → Since Any (ChoosesStep mail) old new
  pub one_side : OneSideAtRest old.now → OneSideAtRest new.now
  pub each_one_side : OneSideAtRest old.now → EachOneSide old new

-- this is the text of the rows of the mailbox's view, where the mailbox is one of the book's
abbrev pub ShowsRows : List ℕ → Meaning → Option (List ℕ) → Type 0
ShowsRows name b None = is_unknown b.boxes name ≡ true
ShowsRows name b (Some text) = (is_unknown b.boxes name ≡ false) × (text ≡ rows_text (view b name))
