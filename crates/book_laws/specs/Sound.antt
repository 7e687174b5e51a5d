-- What lawful events keep true of a book, whatever the server is: all that is needed here of "the book is a fold of lawful events"
-- (this client's profile).
use Rattle.std.specs.Prelude.{◌≡◌, ℕ, ◌-◌, ◌<◌, ◌≤◌, true, false, List, slice_get, Some, None, ⊤}
use Rattle.action_queue.specs.Queues.{due, due_action}
use Rattle.action_queue.specs.Rules.{suits, is_unknown_action, is_misplaced_of}
use Rattle.action_queue.specs.Writable.{IsWritable, IsWritableAction}
use Rattle.action_queue.specs.Book.{Meaning, begun, after}
use Rattle.action_queue.specs.Events.{IsLawful}
use Rattle.action_queue.specs.declared.target.Target.{Target}
use Rattle.action_queue.specs.declared.target.Target.TheVariants as targets
use Rattle.action_queue.specs.declared.action.Action.{Action}
use Rattle.action_queue.specs.declared.action.Action.TheVariants as actions
use Rattle.action_queue.specs.declared.event.Event.{Event}
use Rattle.action_queue.specs.declared.intent.Intent.{Intent}
use Rattle.action_queue.specs.declared.outcome.Outcome.{Outcome}
use Rattle.action_queue.specs.declared.queued.Queued.{Queued}
use Rattle.dummy_ids.specs.Makers.{IsMaker}

-- the intent is one for the action that is due
pub record HasIntent (b : Meaning) (intent : Intent) : Type 0 where
  pub queued : Queued
  pub there : due_action b.queue ≡ Some queued
  pub suits_it : suits b.queue queued.action intent ≡ true

-- where it is done, it has a place exactly where its action makes a message
abbrev pub IsPlaced : Queued → Type 0
IsPlaced q = (outcome : Outcome) → q.outcome ≡ Some outcome → is_misplaced_of q.action outcome ≡ false

-- Action n, counted from 1, stands in front of the one with this index, counted from 0, and makes a message.
pub record IsEarlierMaker (queue : List Queued) (i n : ℕ) : Type 0 where
  pub earlier : n - 1 < i
  pub maker : IsMaker queue n

-- a message of the server, or the dummy of an earlier action that makes it
abbrev pub IsRealOrEarlier : List Queued → ℕ → Target → Type 0
IsRealOrEarlier queue i (targets.Real name validity uid) = ⊤
IsRealOrEarlier queue i (targets.Dummy n) = IsEarlierMaker queue i n

-- so is the target of the action with this index, where it has one
abbrev pub IsTargetGood : List Queued → ℕ → Action → Type 0
IsTargetGood queue i (actions.Flag target add flags) = IsRealOrEarlier queue i target
IsTargetGood queue i (actions.Move target to) = IsRealOrEarlier queue i target
IsTargetGood queue i (actions.Append to flags text id) = ⊤

-- Behind the first unsettled action none has an outcome; the pending intent is one for the action that is due; each action can be
-- written, so that an append's identifier is that of its text; its mailboxes are the book's; where it is done, it has a place exactly
-- where it makes a message; a dummy that it is about is that of an earlier action; and at most two of its tries were taken back.
pub record IsSound (b : Meaning) : Type 0 where
  pub rest : (i : ℕ) (q : Queued) → slice_get b.queue i ≡ Some q → due b.queue ≤ i → q.outcome ≡ None
  pub intent : (intent : Intent) → b.pending ≡ Some intent → HasIntent b intent
  pub writable : (i : ℕ) (q : Queued) → slice_get b.queue i ≡ Some q → IsWritableAction q.action
  pub boxes : (i : ℕ) (q : Queued) → slice_get b.queue i ≡ Some q → is_unknown_action b.boxes q.action ≡ false
  pub places : (i : ℕ) (q : Queued) → slice_get b.queue i ≡ Some q → IsPlaced q
  pub targets : (i : ℕ) (q : Queued) → slice_get b.queue i ≡ Some q → IsTargetGood b.queue i q.action
  pub tries : (i : ℕ) (q : Queued) → slice_get b.queue i ≡ Some q → q.tries ≤ 2

-- The book of a journal that begins is sound, and a lawful event that can be written leaves a sound book.
pub record SoundStays : Type 0 where
  pub at_first : (names : List (List ℕ)) → IsSound (begun names)
  pub behind : (b : Meaning) (event : Event) → IsLawful b event → IsWritable event → IsSound b → IsSound (after b event)
