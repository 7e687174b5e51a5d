-- What is asked of others (this client's premise; RFC 5322, section 3.6.4: a Message-ID is of one message).
--
-- It speaks of the action that is due alone, and of it only where it is an append. The law rests on it only while that append's intent
-- is pending; the player also from the SELECT that told its UIDNEXT.
use Rattle.std.specs.Prelude.{◌≡◌, ℕ, List, Option, Some, None}
use Rattle.imap_model.specs.Carrying.{Waiting}
use Rattle.imap_model.specs.Lookups.{box_at}
use Rattle.imap_model.specs.declared.server.Mailbox.{Mailbox}
use Rattle.action_queue.specs.Queues.{due_action}
use Rattle.action_queue.specs.Book.{Meaning}
use Rattle.action_queue.specs.declared.action.Action.TheVariants as actions
use Rattle.action_queue.specs.declared.queued.Queued.{Queued}
use Rattle.append_probe.specs.Marked.{marked}

-- The messages with the Message-ID of the append that is due are the same ones in its mailbox before and after: others add none and
-- remove none, where the mailbox keeps its UIDVALIDITY.
abbrev pub Spares : Meaning → List Mailbox → List Mailbox → Type 0
Spares b old new = (q : Queued) (to : List ℕ) (flags : List (List ℕ)) (text id : List ℕ) (x y : Mailbox) →
    due_action b.queue ≡ Some q → q.action ≡ actions.Append to flags text id →
    box_at to old ≡ Some x → box_at to new ≡ Some y → y.validity ≡ x.validity → marked id y.messages ≡ marked id x.messages

-- where there is no book yet, nothing is asked
abbrev pub SparesBook : List Mailbox → List Mailbox → Option Meaning → Type 0
SparesBook old new None = Unit {0}
SparesBook old new (Some b) = Spares b old new

-- the UIDVALIDITY of what a name has
abbrev pub has_validity : Option Mailbox → Option ℕ
has_validity None = None
has_validity (Some box) = Some box.validity

-- a mailbox that is selected keeps its UIDVALIDITY
abbrev pub KeepsBox : Option (List ℕ) → List Mailbox → List Mailbox → Type 0
KeepsBox None old new = Unit {0}
KeepsBox (Some name) old new = has_validity (box_at name new) ≡ has_validity (box_at name old)

-- and so does the one in which a command waits
abbrev pub KeepsWaiting : Option Waiting → List Mailbox → List Mailbox → Type 0
KeepsWaiting None old new = Unit {0}
KeepsWaiting (Some w) old new = KeepsBox w.selected old new
