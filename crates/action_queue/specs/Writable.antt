-- Which events have a record: what the types don't say (this client's profile; RFC 5322, section 3.6.4, for the Message-ID).
use Rattle.std.specs.Prelude.{ℕ, ◌≤◌, List, [], ◌∷◌, length, ⊤}
use Rattle.mail_base.specs.declared.limits.TheConstants.{MAX_ROWS}
use Rattle.mail_header.specs.Identifier.{HasMessageId}
use Rattle.mailbox_cache.specs.declared.row.Row.{Row}
use Rattle.action_queue.specs.declared.action.Action.{Action}
use Rattle.action_queue.specs.declared.action.Action.TheVariants as actions
use Rattle.action_queue.specs.declared.event.Event.{Event}
use Rattle.action_queue.specs.declared.event.Event.TheVariants as events
use Rattle.action_queue.specs.Events.{AreNames}

-- each row's flags are few enough
abbrev pub HaveFewFlags : List (ℕ × Row) → Type 0
HaveFewFlags [] = ⊤
HaveFewFlags (r ∷ rows) = (length r.1.flags ≤ 1024) × HaveFewFlags rows

-- some flags are asked, and not too many; an append's identifier is that of its text
abbrev pub IsWritableAction : Action → Type 0
IsWritableAction (actions.Flag target add flags) = (1 ≤ length flags) × (length flags ≤ 1024)
IsWritableAction (actions.Move target to) = ⊤
IsWritableAction (actions.Append to flags text id) = (length flags ≤ 1024) × HasMessageId text id

-- the event has a record
abbrev pub IsWritable : Event → Type 0
IsWritable (events.Begin names) = AreNames names
IsWritable (events.Accept id action) = IsWritableAction action
IsWritable (events.Intend id intent) = ⊤
IsWritable (events.Settle id outcome) = ⊤
IsWritable (events.Learn name delta) = (length delta.rows ≤ MAX_ROWS) × HaveFewFlags delta.rows
IsWritable (events.Old id action outcome) = IsWritableAction action
IsWritable (events.Reset name kept told) = ⊤
IsWritable (events.Withdraw id tries) = ⊤
