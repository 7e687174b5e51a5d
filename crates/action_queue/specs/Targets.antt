-- What a target resolves to (RFC 9051, section 2.3.1.1): a dummy stands for the message that an earlier move or append makes.
use Rattle.std.specs.Prelude.{ℕ, ◌-◌, Bool, false, ◌&&◌, ◌==◌, List, slice_get, bytes_eq, Option, Some, None}
use Rattle.action_queue.specs.declared.target.Target.{Target}
use Rattle.action_queue.specs.declared.target.Target.TheVariants as targets
use Rattle.action_queue.specs.declared.action.Action.{Action}
use Rattle.action_queue.specs.declared.action.Action.TheVariants as actions
use Rattle.action_queue.specs.declared.outcome.Outcome.{Outcome}
use Rattle.action_queue.specs.declared.outcome.Outcome.TheVariants as outcomes
use Rattle.action_queue.specs.declared.queued.Queued.{Queued}
use Rattle.action_queue.specs.declared.found.Found.{Found}
use Rattle.action_queue.specs.declared.found.Found.TheVariants as found

-- action n of the queue, counted from 1
abbrev pub action_at : List Queued → ℕ → Option Queued
action_at queue n = slice_get queue (n - 1)

-- where the message of an action landed that puts it into this mailbox
abbrev pub landed_in : ℕ → List ℕ → Option Outcome → Found
landed_in n to None = found.NotYet n
landed_in n to (Some (outcomes.Conflict kind)) = found.Never n
landed_in n to (Some (outcomes.Done None)) = found.NotYet n
landed_in n to (Some (outcomes.Done (Some place))) = found.Real to place.validity place.uid

-- where the message of a move or an append landed; a flag action makes none
abbrev pub landed : ℕ → Action → Option Outcome → Found
landed n (actions.Flag target add flags) outcome = found.NotYet n
landed n (actions.Move target to) outcome = landed_in n to outcome
landed n (actions.Append to flags text id) outcome = landed_in n to outcome

abbrev pub landed_queued : ℕ → Option Queued → Found
landed_queued n None = found.NotYet n
landed_queued n (Some q) = landed n q.action q.outcome

-- what a target resolves to
abbrev pub resolved : List Queued → Target → Found
resolved queue (targets.Real name validity uid) = found.Real name validity uid
resolved queue (targets.Dummy n) = landed_queued n (action_at queue n)

-- whether it is this message of this mailbox
abbrev pub is_at : Found → List ℕ → ℕ → ℕ → Bool
is_at (found.Real name validity uid) at under number = bytes_eq name at && (validity == under) && (uid == number)
is_at (found.NotYet by) at under number = false
is_at (found.Never by) at under number = false

-- whether it is a message that action n never makes
abbrev pub is_never : Found → ℕ → Bool
is_never (found.Real name validity uid) n = false
is_never (found.NotYet by) n = false
is_never (found.Never by) n = by == n
