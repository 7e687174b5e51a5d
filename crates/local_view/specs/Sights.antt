-- What the user sees of each message before the queue is played: the cached rows, changed by each unsettled action in order (RFC 4549,
-- section 4.2).
use Rattle.std.specs.Prelude.{ℕ, suc, Bool, cond, List, [], ◌∷◌, Option, Some, None}
use Rattle.std.specs.Map.{update}
use Rattle.std.specs.Option.{option_map}
use Rattle.flag_set.specs.FlagSet.{union, minus}
use Rattle.mailbox_cache.specs.Rows.{row_at}
use Rattle.mailbox_cache.specs.declared.cache.Cache.{Cache}
use Rattle.mailbox_cache.specs.declared.row.Row.{Row}
use Rattle.action_queue.specs.Book.{Meaning, cache_at}
use Rattle.action_queue.specs.Targets.{resolved}
use Rattle.action_queue.specs.declared.action.Action.{Action}
use Rattle.action_queue.specs.declared.action.Action.TheVariants as actions
use Rattle.action_queue.specs.declared.book.Known.{Known}
use Rattle.action_queue.specs.declared.outcome.Outcome.{Outcome}
use Rattle.action_queue.specs.declared.queued.Queued.{Queued}
use Rattle.local_view.specs.Messages.{is_same, message_of}
use Rattle.local_view.specs.declared.message.Message.{Message}
use Rattle.local_view.specs.declared.message.Message.TheVariants as message

-- a message as it is seen: its flags, and its mod-sequence where the server has told one
pub record Sight : Type 0 where
  pub modseq : Option ℕ
  pub flags : List (List ℕ)

-- each message that is there, as it is seen
abbrev pub Sights : Type 0
Sights = Message → Option Sight

-- a cached row as it is seen
abbrev pub sight_of : Row → Sight
sight_of row = record { modseq = Some row.modseq; flags = row.flags }

-- the row of a UID, where the mailbox has a cache
abbrev pub row_in : ℕ → Option Cache → Option Row
row_in uid None = None
row_in uid (Some cache) = row_at uid cache.rows

-- at first the rows of each cache are there, and nothing else
abbrev pub cached : List Known → Sights
cached boxes (message.Cached name uid) = option_map sight_of (row_in uid (cache_at name boxes))
cached boxes (message.Made n) = None

-- from now on this is seen of a message
abbrev pub put : Message → Option Sight → Sights → Sights
put m sight sights = update is_same sights m sight

-- with these flags, or without them
abbrev pub turned : Bool → List (List ℕ) → List (List ℕ) → List (List ℕ)
turned add asked flags = cond add (union flags asked) (minus flags asked)

-- with other flags; the mod-sequence stays
abbrev pub with_flags : List (List ℕ) → Sight → Sight
with_flags flags sight = record sight { flags = flags }

-- a message that has no UID yet has no mod-sequence
abbrev pub dummy : List (List ℕ) → Sight
dummy flags = record { modseq = None; flags = flags }

-- where the message is there, its flags become those with, or without, the asked ones
abbrev pub flagged : Bool → List (List ℕ) → Message → Option Sight → Sights → Sights
flagged add asked m None sights = sights
flagged add asked m (Some sight) sights = put m (Some (with_flags (turned add asked sight.flags) sight)) sights

-- where the message is there, it is taken away, and the message that action n makes is there with its flags
abbrev pub moved : ℕ → Message → Option Sight → Sights → Sights
moved n m None sights = sights
moved n m (Some sight) sights = put (message.Made n) (Some (dummy sight.flags)) (put m None sights)

-- the same of the message that a target stands for; where it stands for none, nothing changes
abbrev pub flagged_at : Bool → List (List ℕ) → Option Message → Sights → Sights
flagged_at add asked None sights = sights
flagged_at add asked (Some m) sights = flagged add asked m (sights m) sights

-- the same of the message that a target stands for; where it stands for none, nothing changes
abbrev pub moved_at : ℕ → Option Message → Sights → Sights
moved_at n None sights = sights
moved_at n (Some m) sights = moved n m (sights m) sights

-- what is seen once action n of the book has its effect
abbrev pub acted : Meaning → ℕ → Action → Sights → Sights
acted b n (actions.Flag target add flags) sights = flagged_at add flags (message_of b.boxes (resolved b.queue target)) sights
acted b n (actions.Move target to) sights = moved_at n (message_of b.boxes (resolved b.queue target)) sights
acted b n (actions.Append to flags text id) sights = put (message.Made n) (Some (dummy flags)) sights

-- a settled action has no part in it
abbrev pub acted_unless : Meaning → ℕ → Action → Option Outcome → Sights → Sights
acted_unless b n action None sights = acted b n action sights
acted_unless b n action (Some outcome) sights = sights

-- what is seen after these actions of the book, of which the first is action n
abbrev pub acted_all : Meaning → ℕ → List Queued → Sights → Sights
acted_all b n [] sights = sights
acted_all b n (q ∷ qs) sights = acted_all b (suc n) qs (acted_unless b n q.action q.outcome sights)

-- what is seen of each message
abbrev pub seen : Meaning → Sights
seen b = acted_all b 1 b.queue (cached b.boxes)
