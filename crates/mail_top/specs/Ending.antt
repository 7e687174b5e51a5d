-- How a command ends: what each status says of what was asked for, of the book as read, of what a stop leaves, of the link, and
-- of the printed text.
use Rattle.std.specs.Prelude.{◌≡◌, ◌⊎◌, ℕ, ◌≤◌, ◌<◌, false, List, length}
use Rattle.mail_base.specs.declared.limits.TheConstants.{MAX_ACTIONS}
use Rattle.mail_base.specs.Account.{Credentials}
use Rattle.mail_base.specs.Lines.{error_words}
use Rattle.mail_base.specs.declared.status.Status.{Status}
use Rattle.mail_base.specs.declared.status.Status.TheVariants as status
use Rattle.world_traits.specs.Files.{Files}
use Rattle.world_traits.specs.Moments.{Within}
use Rattle.journal_core.specs.Limits.{max_accepted}
use Rattle.action_queue.specs.Book.{Meaning}
use Rattle.action_queue.specs.Rules.{is_unknown}
use Rattle.action_queue.specs.declared.action.Action.{Action}
use Rattle.store_core.specs.Mail.{mail}
use Rattle.store_core.specs.Books.{HasBook}
use Rattle.conflict_report.specs.QueueLines.{queue_text}
use Rattle.conflict_report.specs.ReportLines.{report_text}
use Rattle.mail_top.specs.Actions.{Becomes, accepts}
use Rattle.mail_top.specs.Course.{Course, OnFiles, end_behind}
use Rattle.mail_top.specs.Leaving.{MayBeLeft}
use Rattle.mail_top.specs.Played.{SaysPlayed, SaysStopped}
use Rattle.mail_top.specs.Readying.{LeavesRead}
use Rattle.mail_top.specs.Reasons.{IsFree}
use Rattle.mail_top.specs.Saying.{SaysReady, SaysTaken, SaysAccepted, SaysRows, SaysUnknown, SaysShown, SaysBroken, SaysRefused, SaysUnread}
use Rattle.mail_top.specs.Saying.{SaysFull, SaysMemory, SaysMemoryBehind, SaysOlder, SaysDisk}
use Rattle.mail_top.specs.Takeover.{IsNotTakenAs}
use Rattle.mail_top.specs.Telling.{status_of_refusal}
use Rattle.mail_top.specs.declared.refusal.Refusal.{Refusal}
use Rattle.mail_top.specs.Words.{Wanted, Request, Init, Act, Rows, Queue, Report, Play, Asks, AsksNothing}

-- What each status says of `init BOX ..`. The others don't come.
abbrev pub EndsInit : List (List ℕ) → Course → Status → List ℕ → Type 0
EndsInit names k status.Done text = SaysReady names k text
EndsInit names k status.Output text = SaysReady names k text
EndsInit names k status.Disk text = SaysDisk (MayBeLeft (Init names) k.old.now k.seen k.new.now) text
EndsInit names k status.Journal text = SaysTaken k text
EndsInit names k status.Memory text = SaysMemory k text
EndsInit names k status.Words text = ⊥
EndsInit names k status.Reason text = ⊥
EndsInit names k status.Limit text = ⊥
EndsInit names k status.Conflicts text = ⊥
EndsInit names k status.Link text = ⊥
EndsInit names k status.Refused text = ⊥
EndsInit names k status.Reply text = ⊥
EndsInit names k status.Lacking text = ⊥
EndsInit names k status.Validity text = ⊥
EndsInit names k status.Input text = ⊥
EndsInit names k status.Shelf text = ⊥

-- What each status says of an action that is asked for: `flag`, `move` and `append`.
abbrev pub EndsAct : Wanted → Course → Status → List ℕ → Type 0
EndsAct wanted k status.Done text = SaysAccepted wanted k text
EndsAct wanted k status.Output text = SaysAccepted wanted k text
EndsAct wanted k status.Disk text = SaysDisk (MayBeLeft (Act wanted) k.old.now k.seen k.new.now) text
EndsAct wanted k status.Journal text = SaysBroken k text
EndsAct wanted k status.Reason text = SaysRefused wanted k text
EndsAct wanted k status.Memory text = SaysMemory k text ⊎ SaysMemoryBehind k text
EndsAct wanted k status.Limit text = SaysFull wanted k text
EndsAct wanted k status.Input text = SaysUnread wanted k text
EndsAct wanted k status.Words text = ⊥
EndsAct wanted k status.Conflicts text = ⊥
EndsAct wanted k status.Link text = ⊥
EndsAct wanted k status.Refused text = ⊥
EndsAct wanted k status.Reply text = ⊥
EndsAct wanted k status.Lacking text = ⊥
EndsAct wanted k status.Validity text = ⊥
EndsAct wanted k status.Shelf text = ⊥

-- What each status says of `list BOX`.
abbrev pub EndsRows : List ℕ → Course → Status → List ℕ → Type 0
EndsRows name k status.Done text = SaysRows name k text
EndsRows name k status.Output text = SaysRows name k text
EndsRows name k status.Disk text = SaysDisk (Within k.old.now k.new.now) text
EndsRows name k status.Journal text = SaysBroken k text
EndsRows name k status.Reason text = SaysUnknown name k text
EndsRows name k status.Memory text = SaysMemory k text
EndsRows name k status.Words text = ⊥
EndsRows name k status.Limit text = ⊥
EndsRows name k status.Conflicts text = ⊥
EndsRows name k status.Link text = ⊥
EndsRows name k status.Refused text = ⊥
EndsRows name k status.Reply text = ⊥
EndsRows name k status.Lacking text = ⊥
EndsRows name k status.Validity text = ⊥
EndsRows name k status.Input text = ⊥
EndsRows name k status.Shelf text = ⊥

-- What each status says of `queue` and of `report`, which show the book by a text.
abbrev pub EndsShown : (Meaning → List ℕ) → Course → Status → List ℕ → Type 0
EndsShown shown k status.Done text = SaysShown shown k text
EndsShown shown k status.Output text = SaysShown shown k text
EndsShown shown k status.Disk text = SaysDisk (Within k.old.now k.new.now) text
EndsShown shown k status.Journal text = SaysBroken k text
EndsShown shown k status.Memory text = SaysMemory k text
EndsShown shown k status.Words text = ⊥
EndsShown shown k status.Reason text = ⊥
EndsShown shown k status.Limit text = ⊥
EndsShown shown k status.Conflicts text = ⊥
EndsShown shown k status.Link text = ⊥
EndsShown shown k status.Refused text = ⊥
EndsShown shown k status.Reply text = ⊥
EndsShown shown k status.Lacking text = ⊥
EndsShown shown k status.Validity text = ⊥
EndsShown shown k status.Input text = ⊥
EndsShown shown k status.Shelf text = ⊥

-- What each status says of `play`. The others don't come.
abbrev pub EndsPlay : Credentials → Course → Status → List ℕ → Type 0
EndsPlay account k status.Done text = SaysPlayed account k status.Done text
EndsPlay account k status.Conflicts text = SaysPlayed account k status.Conflicts text
EndsPlay account k status.Output text = SaysPlayed account k status.Done text ⊎ SaysPlayed account k status.Conflicts text
EndsPlay account k status.Disk text =
    OnFiles k (SaysDisk (LeavesRead k.old.now k.seen k.new.now) text) ⊎ SaysStopped account k status.Disk text
EndsPlay account k status.Link text = SaysStopped account k status.Link text
EndsPlay account k status.Refused text = SaysStopped account k status.Refused text
EndsPlay account k status.Reply text = SaysStopped account k status.Reply text
EndsPlay account k status.Lacking text = SaysStopped account k status.Lacking text
EndsPlay account k status.Journal text = OnFiles k (SaysBroken k text)
EndsPlay account k status.Memory text = OnFiles k (SaysMemory k text) ⊎ SaysStopped account k status.Memory text
EndsPlay account k status.Limit text = OnFiles k (SaysOlder k text) ⊎ SaysStopped account k status.Limit text
EndsPlay account k status.Validity text = ⊥
EndsPlay account k status.Words text = ⊥
EndsPlay account k status.Reason text = ⊥
EndsPlay account k status.Input text = ⊥
EndsPlay account k status.Shelf text = ⊥

-- what each status says of a request
abbrev pub EndsRequest : Credentials → Request → Course → Status → List ℕ → Type 0
EndsRequest account (Init names) k s text = OnFiles k (EndsInit names k s text)
EndsRequest account (Act wanted) k s text = OnFiles k (EndsAct wanted k s text)
EndsRequest account (Rows name) k s text = OnFiles k (EndsRows name k s text)
EndsRequest account Queue k s text = OnFiles k (EndsShown queue_text k s text)
EndsRequest account Report k s text = OnFiles k (EndsShown report_text k s text)
EndsRequest account Play k s text = EndsPlay account k s text

-- the words ask for nothing, and nothing was done
pub record SaysWords (words : List (List ℕ)) (k : Course) (s : Status) (text : List ℕ) : Type 0 where
  pub nothing : AsksNothing words
  pub stays : k.new ≡ k.old
  pub reads : k.seen_after ≡ k.seen
  pub link : k.link_after ≡ k.link
  pub told : s ≡ status.Words
  pub text_is : text ≡ error_words

-- the words and the input ask for something, and so it ended
pub record SaysRequest (account : Credentials) (words : List (List ℕ)) (input : List ℕ) (k : Course) (s : Status) (text : List ℕ) : Type 0 where
  pub request : Request
  pub asks : Asks words input request
  pub ends : EndsRequest account request k s text

abbrev pub Ends : Credentials → List (List ℕ) → List ℕ → Course → Status → List ℕ → Type 0
Ends account words input k s text = SaysWords words k s text ⊎ SaysRequest account words input k s text

-- done, or memory is wanting
abbrev pub IsDone : Status → Type 0
IsDone s = (s ≡ status.Done) ⊎ (s ≡ status.Memory)

-- The files hold a book that takes the action: no reason is against it, a journal of an older version can be taken over, and with the action neither
-- the queue nor the journal passes a limit.
pub record IsTakable (wanted : Wanted) (seen : Files) : Type 0 where
  pub book : Meaning
  pub holds : HasBook mail book seen
  pub taken : (refusal : Refusal) → status_of_refusal refusal ≡ status.Limit → IsNotTakenAs holds.version holds.holds.generation book refusal → ⊥
  pub free : IsFree wanted book
  pub few : length book.queue < MAX_ACTIONS
  pub room : (action : Action) → Becomes wanted book action → end_behind holds (accepts book action) ≤ max_accepted

-- The files hold a book that has the mailbox.
pub record IsListable (name : List ℕ) (seen : Files) : Type 0 where
  pub book : Meaning
  pub holds : HasBook mail book seen
  pub known : is_unknown book.boxes name ≡ false
