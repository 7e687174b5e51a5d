-- The queue of actions, as they were accepted: the settled ones stand before the others (RFC 4549, section 4.2).
use Rattle.std.specs.Prelude.{◌≡◌, ℕ, suc, List, [], ◌∷◌, slice_get, Option, Some, None, IsSome, ⊤}
use Rattle.action_queue.specs.declared.action.Action.{Action}
use Rattle.action_queue.specs.declared.outcome.Outcome.{Outcome}
use Rattle.action_queue.specs.declared.queued.Queued.{Queued}

-- the actions of a queue, and how many more it takes without memory
pub record Entries : Type 0 where
  pub items : List Queued
  pub spare : ℕ

abbrev pub settled_then : Option Outcome → ℕ → ℕ
settled_then None n = 0
settled_then (Some outcome) n = suc n

-- how many actions are settled before the first unsettled one: the place of the action that is due
abbrev pub due : List Queued → ℕ
due [] = 0
due (q ∷ qs) = settled_then q.outcome (due qs)

-- the action that is due, if one is unsettled
abbrev pub due_action : List Queued → Option Queued
due_action queue = slice_get queue (due queue)

-- an action as it is accepted
abbrev pub accepted : Action → Queued
accepted action = record { action = action; outcome = None; tries = 0 }

-- an action that ended, as it is told anew
abbrev pub ended : Action → Outcome → Queued
ended action outcome = record { action = action; outcome = Some outcome; tries = 0 }

-- an action with this outcome
abbrev pub settled : Outcome → Queued → Queued
settled outcome q = record q { outcome = Some outcome; tries = 0 }

-- an action whose command had no effect, with the number of its tries so far
abbrev pub tried : ℕ → Queued → Queued
tried tries q = record q { tries = tries }

abbrev pub change_queued : (Queued → Queued) → Queued → List Queued → List Queued → Option Outcome → List Queued
change_queued f q qs changed None = f q ∷ qs
change_queued f q qs changed (Some old) = q ∷ changed

-- the first unsettled action becomes this
abbrev pub change_first : (Queued → Queued) → List Queued → List Queued
change_first f [] = []
change_first f (q ∷ qs) = change_queued f q qs (change_first f qs) q.outcome

-- a queue as if no try of the action that is due was taken back
abbrev pub untried : List Queued → List Queued
untried queue = change_first (tried 0) queue

abbrev pub tries_of : Option Queued → ℕ
tries_of None = 0
tries_of (Some q) = q.tries

-- how many tries of the action that is due were taken back
abbrev pub tries_due : List Queued → ℕ
tries_due queue = tries_of (due_action queue)

-- every action has an outcome
abbrev pub AllSettled : List Queued → Type 0
AllSettled [] = ⊤
AllSettled (q ∷ qs) = IsSome q.outcome × AllSettled qs

-- no action has an outcome
abbrev pub AllOpen : List Queued → Type 0
AllOpen [] = ⊤
AllOpen (q ∷ qs) = (q.outcome ≡ None) × AllOpen qs

abbrev pub InOrderThen : Option Outcome → Type 0 → Type 0 → Type 0
InOrderThen None still later = still
InOrderThen (Some outcome) still later = later

-- behind the first unsettled action no action has an outcome
abbrev pub IsInOrder : List Queued → Type 0
IsInOrder [] = ⊤
IsInOrder (q ∷ qs) = InOrderThen q.outcome (AllOpen qs) (IsInOrder qs)
