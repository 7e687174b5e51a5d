-- The mailbox that a message is in, as the user's words name it (RFC 9051, section 5.1).
use Rattle.std.specs.Prelude.{ℕ, Bool, false, List, bytes_eq, Option, Some, None}
use Rattle.action_queue.specs.Targets.{action_at}
use Rattle.action_queue.specs.declared.action.Action.{Action}
use Rattle.action_queue.specs.declared.action.Action.TheVariants as actions
use Rattle.action_queue.specs.declared.queued.Queued.{Queued}
use Rattle.action_queue.specs.declared.target.Target.{Target}
use Rattle.action_queue.specs.declared.target.Target.TheVariants as targets

-- the mailbox that an action puts a message into; a flag action makes none
abbrev pub to_of : Action → Option (List ℕ)
to_of (actions.Flag target add flags) = None
to_of (actions.Move target to) = Some to
to_of (actions.Append to flags text id) = Some to

-- the same of an action of the queue, if there is one of that number
abbrev pub to_of_queued : Option Queued → Option (List ℕ)
to_of_queued None = None
to_of_queued (Some q) = to_of q.action

-- the mailbox of a target: the one that it names, or, of a dummy, the one that its action puts the message into
abbrev pub box_of : List Queued → Target → Option (List ℕ)
box_of queue (targets.Real name validity uid) = Some name
box_of queue (targets.Dummy n) = to_of_queued (action_at queue n)

-- whether it is this mailbox
abbrev pub is_box : List ℕ → Option (List ℕ) → Bool
is_box name None = false
is_box name (Some to) = bytes_eq to name

-- whether the action puts a message into this mailbox
abbrev pub makes_into : List ℕ → Action → Bool
makes_into name action = is_box name (to_of action)
