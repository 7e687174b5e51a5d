-- The text of the queue: a line for each unsettled action, in order (this client's profile). Each line ends with an LF.
use Rattle.std.specs.Prelude.{ℕ, suc, ◌+◌, Bool, true, false, ◌&&◌, ◌==◌, is_some, List, [], ◌∷◌, ◌++◌, codes, decimal, Option, Some, None}
use Rattle.std.specs.List.{flat_map}
use Rattle.action_queue.specs.Book.{Meaning}
use Rattle.action_queue.specs.Queues.{due}
use Rattle.action_queue.specs.declared.action.Action.{Action}
use Rattle.action_queue.specs.declared.action.Action.TheVariants as actions
use Rattle.action_queue.specs.declared.outcome.Outcome.{Outcome}
use Rattle.action_queue.specs.declared.queued.Queued.{Queued}
use Rattle.action_queue.specs.declared.target.Target.{Target}
use Rattle.action_queue.specs.declared.target.Target.TheVariants as targets
use Rattle.dummy_ids.specs.Places.{box_of}

-- a flag's key behind a space
abbrev pub spaced : List ℕ → List ℕ
spaced key = 32 ∷ key

-- the sign of an addition, or of a removal
abbrev pub sign_of : Bool → ℕ
sign_of true = 43
sign_of false = 45

-- an action's state: it waits, or its command may have been sent
abbrev pub state_text : Bool → List ℕ
state_text true = codes " begun"
state_text false = codes " waiting"

-- the action is the one that is due, and an intent is pending for it
abbrev pub is_begun : Meaning → ℕ → Bool
is_begun b n = is_some b.pending && (n == due b.queue + 1)

-- a message as the target names it: by its UID, or by `d` and the number of the action that makes it
abbrev pub ident_text : Target → List ℕ
ident_text (targets.Real name validity uid) = decimal uid
ident_text (targets.Dummy n) = 100 ∷ decimal n

abbrev pub name_text : Option (List ℕ) → List ℕ
name_text None = []
name_text (Some name) = name

-- ` BOX ID`: the target's mailbox, which of a dummy is the one that its action names, and the message
unfoldable pub target_text : List Queued → Target → List ℕ
target_text queue target = 32 ∷ [] ++ name_text (box_of queue target) ++ 32 ∷ [] ++ ident_text target

-- ` + KEY ..` or ` - KEY ..`: flags to add or to take away
unfoldable pub change_text : Bool → List (List ℕ) → List ℕ
change_text add flags = 32 ∷ sign_of add ∷ [] ++ flat_map spaced flags

-- what an action asks for
unfoldable pub action_text : List Queued → Action → List ℕ
action_text queue (actions.Flag target add flags) = codes " flag" ++ target_text queue target ++ change_text add flags
action_text queue (actions.Move target to) = codes " move" ++ target_text queue target ++ 32 ∷ [] ++ to
action_text queue (actions.Append to flags text id) = codes " append " ++ to ++ 32 ∷ [] ++ id

-- `n waiting` or `n begun`, and what the action asks for
abbrev pub queue_line : Meaning → ℕ → Action → List ℕ
queue_line b n action = decimal n ++ state_text (is_begun b n) ++ action_text b.queue action ++ 10 ∷ []

-- a settled action has no line
abbrev pub line_unless : Meaning → ℕ → Action → Option Outcome → List ℕ
line_unless b n action None = queue_line b n action
line_unless b n action (Some outcome) = []

-- the lines of these actions of the book, of which the first is action n
abbrev pub queue_lines : Meaning → ℕ → List Queued → List ℕ
queue_lines b n [] = []
queue_lines b n (q ∷ qs) = line_unless b n q.action q.outcome ++ queue_lines b (suc n) qs

-- the text of the queue
abbrev pub queue_text : Meaning → List ℕ
queue_text b = queue_lines b 1 b.queue
