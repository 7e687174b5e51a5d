-- The action that is asked for becomes one of the queue (RFC 4549, section 4.2).
use Rattle.std.specs.Prelude.{◌≡◌, ℕ, ◌+◌, List, [], length, fold, Option, Some, None}
use Rattle.flag_set.specs.FlagKey.{key_of}
use Rattle.flag_set.specs.FlagSet.{put}
use Rattle.mail_header.specs.BareLf.{crlf_of}
use Rattle.mail_header.specs.Identifier.{HasMessageId}
use Rattle.mailbox_cache.specs.declared.cache.Cache.{Cache}
use Rattle.action_queue.specs.declared.action.Action.{Action}
use Rattle.action_queue.specs.declared.action.Action.TheVariants as actions
use Rattle.action_queue.specs.declared.event.Event.{Event}
use Rattle.action_queue.specs.declared.event.Event.TheVariants as events
use Rattle.action_queue.specs.declared.target.Target.{Target}
use Rattle.action_queue.specs.declared.target.Target.TheVariants as targets
use Rattle.action_queue.specs.Book.{Meaning, cache_at}
use Rattle.local_view.specs.declared.seen.Ident.{Ident}
use Rattle.local_view.specs.declared.seen.Ident.TheVariants as ident
use Rattle.mail_top.specs.Words.{Change, Transfer, Addition, Wanted, Flag, Move, Append}

-- the set of the flags' keys
abbrev pub keys_of : List (List ℕ) → List (List ℕ)
keys_of flags = fold (λ keys flag. put (key_of flag) keys) [] flags

-- a UID is meant under the UIDVALIDITY of its mailbox's cache; a dummy stands for itself
abbrev pub target_in : List ℕ → Option Cache → Ident → Option Target
target_in name None (ident.Real uid) = None
target_in name (Some cache) (ident.Real uid) = Some (targets.Real name cache.validity uid)
target_in name cache (ident.Dummy n) = Some (targets.Dummy n)

-- the target of a message of a mailbox, on a book
abbrev pub target_of : Meaning → List ℕ → Ident → Option Target
target_of b name id = target_in name (cache_at name b.boxes) id

-- A change of flags becomes this action.
pub record IsFlagAction (change : Change) (b : Meaning) (action : Action) : Type 0 where
  pub target : Target
  pub of : target_of b change.name change.id ≡ Some target
  pub is : action ≡ actions.Flag target change.add (keys_of change.flags)

-- A transfer becomes this action.
pub record IsMoveAction (transfer : Transfer) (b : Meaning) (action : Action) : Type 0 where
  pub target : Target
  pub of : target_of b transfer.name transfer.id ≡ Some target
  pub is : action ≡ actions.Move target transfer.to

-- An addition becomes this action. The message is the input with a CR before each LF that has none (RFC 5322, section 2.3), and
-- it has this Message-ID.
pub record IsAppendAction (addition : Addition) (input : List ℕ) (action : Action) : Type 0 where
  pub id : List ℕ
  pub has : HasMessageId (crlf_of input) id
  pub is : action ≡ actions.Append addition.to (keys_of addition.flags) (crlf_of input) id

-- on this book, what is asked for becomes this action
abbrev pub Becomes : Wanted → Meaning → Action → Type 0
Becomes (Flag change) b action = IsFlagAction change b action
Becomes (Move transfer) b action = IsMoveAction transfer b action
Becomes (Append addition input) b action = IsAppendAction addition input action

-- the number of the next action, counted from 1
abbrev pub next_id : Meaning → ℕ
next_id b = length b.queue + 1

-- the event that accepts an action
abbrev pub accepts : Meaning → Action → Event
accepts b action = events.Accept (next_id b) action
