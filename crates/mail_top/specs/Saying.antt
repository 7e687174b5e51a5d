-- What is said of how a command ended: of the book as read, of what a stop leaves now, and of the printed text.
use Rattle.std.specs.Prelude.{◌≡◌, ◌⊎◌, ℕ, ◌≤◌, ◌<◌, true, false, List, length, Some, None}
use Rattle.mail_base.specs.declared.limits.TheConstants.{MAX_ACTIONS}
use Rattle.mail_base.specs.Lines.{ready, accepted, error_disk, error_memory, journal_header, journal_exists, limit_journal}
use Rattle.journal_core.specs.declared.fault.Place9.{Place9}
use Rattle.journal_core.specs.Appending.{told_end}
use Rattle.journal_core.specs.Creating.{IsTaken, IsUnbegun}
use Rattle.journal_core.specs.Limits.{max_accepted}
use Rattle.journal_core.specs.Reading.{AnyWrong}
use Rattle.action_queue.specs.Book.{Meaning, after, begun}
use Rattle.action_queue.specs.Rules.{is_unknown}
use Rattle.action_queue.specs.declared.action.Action.{Action}
use Rattle.store_core.specs.Mail.{mail}
use Rattle.store_core.specs.Books.{HasBook}
use Rattle.store_core.specs.Broken.{IsBroken}
use Rattle.store_core.specs.HeldActions.{IsHeld}
use Rattle.store_core.specs.Steps.{Firm}
use Rattle.store_core.specs.Taking.{HasBooks}
use Rattle.conflict_report.specs.StatusLines.{error_input, limit_actions}
use Rattle.local_view.specs.Listing.{view}
use Rattle.mail_top.specs.Actions.{Becomes, next_id, accepts}
use Rattle.mail_top.specs.Course.{Course, Keeps, Stays, StaysWritten, end_behind}
use Rattle.mail_top.specs.Reading.{Awaits}
use Rattle.mail_top.specs.Reasons.{IsFirst, IsFree}
use Rattle.mail_top.specs.Takeover.{IsNotTakenAs}
use Rattle.mail_top.specs.Telling.{line_of, status_of_refusal, text_of_refusal}
use Rattle.mail_top.specs.Texts.{refused, rows_text}
use Rattle.mail_top.specs.Words.{Wanted}
use Rattle.mail_top.specs.declared.refusal.Refusal.{Refusal}
use Rattle.mail_base.specs.declared.status.Status.TheVariants as status
use Rattle.mail_top.specs.declared.reason.Reason.{Reason}
use Rattle.mail_top.specs.declared.reason.Reason.TheVariants as reasons

-- There was no journal, and now each stop leaves the book of the names.
pub record SaysReady (names : List (List ℕ)) (k : Course) (text : List ℕ) : Type 0 where
  pub unbegun : IsUnbegun k.seen
  pub leaves : HasBooks mail (Firm (Some (begun names))) k.new.now
  pub text_is : text ≡ ready

-- A side has a wrong header, or else a journal is there already.
pub record SaysTaken (k : Course) (text : List ℕ) : Type 0 where
  pub keeps : Keeps k
  pub taken : (AnyWrong k.seen × (text ≡ journal_header)) ⊎ (IsTaken k.seen × (text ≡ journal_exists))

-- The files as read hold a book that no reason keeps from taking the action, and that has room for it. Now each stop leaves
-- the book with the action behind the others, and at its place each image holds it. The text tells its number.
pub record SaysAccepted (wanted : Wanted) (k : Course) (text : List ℕ) : Type 0 where
  pub book : Meaning
  pub holds : HasBook mail book k.seen
  pub free : IsFree wanted book
  pub few : length book.queue < MAX_ACTIONS
  pub action : Action
  pub is : Becomes wanted book action
  pub within : end_behind holds (accepts book action) ≤ max_accepted
  pub leaves : HasBooks mail (Firm (Some (after book (accepts book action)))) k.new.now
  pub held : IsHeld (length book.queue) action None k.new.now
  pub text_is : text ≡ accepted (next_id book)

-- The files as read hold a book that has the mailbox, and this is the text of the rows of its view.
pub record SaysRows (name : List ℕ) (k : Course) (text : List ℕ) : Type 0 where
  pub book : Meaning
  pub stays : Stays k book
  pub known : is_unknown book.boxes name ≡ false
  pub text_is : text ≡ rows_text (view book name)

-- The files as read hold a book that doesn't have the mailbox.
pub record SaysUnknown (name : List ℕ) (k : Course) (text : List ℕ) : Type 0 where
  pub book : Meaning
  pub stays : Stays k book
  pub unknown : is_unknown book.boxes name ≡ true
  pub text_is : text ≡ refused reasons.NoMailbox

-- The files as read hold a book, and this is the text that shows it.
pub record SaysShown (shown : Meaning → List ℕ) (k : Course) (text : List ℕ) : Type 0 where
  pub book : Meaning
  pub stays : Stays k book
  pub text_is : text ≡ shown book

-- The files as read hold no book, for the text's reason.
pub record SaysBroken (k : Course) (text : List ℕ) : Type 0 where
  pub keeps : Keeps k
  pub why : Place9
  pub broken : IsBroken mail why k.seen
  pub text_is : text ≡ line_of why

-- The files as read hold a book, and the text's reason is the first against the action that is asked for.
pub record SaysRefused (wanted : Wanted) (k : Course) (text : List ℕ) : Type 0 where
  pub book : Meaning
  pub stays : Stays k book
  pub reason : Reason
  pub is : IsFirst wanted book reason
  pub text_is : text ≡ refused reason

-- The files as read hold a book, and none of the reasons that are looked for at once speaks against an append; but its input
-- failed.
pub record SaysUnread (wanted : Wanted) (k : Course) (text : List ℕ) : Type 0 where
  pub book : Meaning
  pub stays : Stays k book
  pub awaits : Awaits wanted book
  pub text_is : text ≡ error_input

-- with the action the journal that is written to would end at the text's place, past its limit
pub record PassesPlace (wanted : Wanted) (k : Course) (book : Meaning) (holds : HasBook mail book k.seen) (text : List ℕ) : Type 0 where
  pub few : length book.queue < MAX_ACTIONS
  pub action : Action
  pub is : Becomes wanted book action
  pub past : max_accepted < end_behind holds (accepts book action)
  pub text_is : text ≡ limit_journal (told_end (end_behind holds (accepts book action)))

-- the queue would have too many actions, or else the journal would be too long; then a journal of an older version was taken over
pub record PassesLimit (wanted : Wanted) (k : Course) (book : Meaning) (text : List ℕ) : Type 0 where
  pub stays : StaysWritten k book
  pub past : ((MAX_ACTIONS ≤ length book.queue) × (text ≡ limit_actions)) ⊎ PassesPlace wanted k book stays.holds text

-- the journal is of an older version, and isn't taken over for this limit
pub record PassesTakeover (k : Course) (book : Meaning) (text : List ℕ) : Type 0 where
  pub stays : Stays k book
  pub refusal : Refusal
  pub limit : IsNotTakenAs stays.holds.version stays.holds.holds.generation book refusal
  pub is_limit : status_of_refusal refusal ≡ status.Limit
  pub text_is : text ≡ text_of_refusal refusal

-- The files as read hold a book that no reason keeps from taking the action; but a limit does.
pub record SaysFull (wanted : Wanted) (k : Course) (text : List ℕ) : Type 0 where
  pub book : Meaning
  pub free : IsFree wanted book
  pub past : PassesLimit wanted k book text ⊎ PassesTakeover k book text

-- the same of a run: the journal that it found isn't taken over
pub record SaysOlder (k : Course) (text : List ℕ) : Type 0 where
  pub book : Meaning
  pub past : PassesTakeover k book text

-- memory is wanting, maybe behind a journal that was taken over
pub record SaysMemoryBehind (k : Course) (text : List ℕ) : Type 0 where
  pub book : Meaning
  pub stays : StaysWritten k book
  pub text_is : text ≡ error_memory

-- memory is wanting
pub record SaysMemory (k : Course) (text : List ℕ) : Type 0 where
  pub keeps : Keeps k
  pub text_is : text ≡ error_memory

-- the disk failed, and a stop leaves this
pub record SaysDisk (left : Type 0) (text : List ℕ) : Type 0 where
  pub leaves : left
  pub text_is : text ≡ error_disk
