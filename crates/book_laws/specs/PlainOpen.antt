-- A plain program for `Open` (RFC 7162, section 3.1.3; RFC 9051, sections 2.3.1.1 and 6.4.8; RFC 4549, section 4.2).
use Rattle.std.specs.Prelude.{◌≡◌, ℕ, suc, Bool, true, false, ◌&&◌, ◌||◌, ◌==◌, nat_le, nat_lt, not, List, [], ◌∷◌, Option, Some, None, if◌then◌else◌}
use Rattle.imap_model.specs.Lookups.{box_at, message_at}
use Rattle.imap_model.specs.Ours.{is_number, ours}
use Rattle.imap_model.specs.declared.deed.Deed.{Deed}
use Rattle.imap_model.specs.declared.server.Message.{Message}
use Rattle.imap_model.specs.declared.server.Mailbox.{Mailbox}
use Rattle.imap_model.specs.declared.server.Server.{Server}
use Rattle.action_queue.specs.Queues.{due, due_action}
use Rattle.action_queue.specs.Book.{Meaning}
use Rattle.action_queue.specs.declared.action.Action.{Action}
use Rattle.action_queue.specs.declared.intent.Intent.{Intent}
use Rattle.action_queue.specs.declared.intent.Intent.TheVariants as intents
use Rattle.action_queue.specs.declared.queued.Queued.{Queued}
use Rattle.append_probe.specs.Marked.{IsIdentifier, has_id}
use Rattle.append_probe.specs.Question.{append_id}
use Rattle.book_laws.specs.Once.{new_uid}
use Rattle.book_laws.specs.Open.{intent_name, intent_validity}
use Rattle.book_laws.specs.PlainOnce.{is_none}

abbrev pub row_above : ℕ → Option Message → Bool
row_above modseq None = true
row_above modseq (Some m) = nat_lt modseq m.modseq

abbrev pub not_there : Option Message → Bool
not_there None = true
not_there (Some m) = false

-- the message has this identifier, and a UID from this one on
abbrev pub is_marked : ℕ → List ℕ → Message → Bool
is_marked low id m = has_id id m.text && nat_le low m.uid

-- the UIDs of such messages
abbrev pub marked_from : ℕ → List ℕ → List Message → List ℕ
marked_from low id [] = []
marked_from low id (m ∷ ms) = if is_marked low id m then m.uid ∷ marked_from low id ms else marked_from low id ms

-- these deeds gave these UIDs
abbrev pub gave : List ℕ → List Deed → Bool
gave us [] = is_none us
gave [] (d ∷ ds) = false
gave (u ∷ us) (d ∷ ds) = is_number u (new_uid d.change) && gave us ds

abbrev pub all_received : ℕ → List Deed → Bool
all_received validity [] = true
all_received validity (d ∷ ds) = (d.received == validity) && all_received validity ds

abbrev pub store_holds : ℕ → ℕ → List Deed → Mailbox → Bool
store_holds uid modseq mine b = nat_le modseq b.highest && (nat_lt uid b.uidnext && (is_none mine || row_above modseq (message_at uid b.messages)))

abbrev pub shift_holds : ℕ → List Deed → Mailbox → Bool
shift_holds uid mine b = nat_lt uid b.uidnext && (is_none mine || not_there (message_at uid b.messages))

abbrev pub put_holds : List ℕ → ℕ → ℕ → List Deed → Mailbox → Bool
put_holds id uidnext validity mine b = nat_le uidnext b.uidnext && (gave (marked_from uidnext id b.messages) mine && all_received validity mine)

abbrev pub intent_holds : Action → List Deed → Intent → Mailbox → Bool
intent_holds action mine (intents.Store name validity uid modseq) b = store_holds uid modseq mine b
intent_holds action mine (intents.Shift from validity uid to) b = shift_holds uid mine b
intent_holds action mine (intents.Put to validity uidnext) b = put_holds (append_id action) uidnext validity mine b

-- the mailbox is there, and has this UIDVALIDITY
abbrev pub holds_in : (Mailbox → Bool) → ℕ → Option Mailbox → Bool
holds_in test validity None = false
holds_in test validity (Some b) = nat_le validity b.validity && (not (b.validity == validity) || test b)

-- the intent says what is so of its mailbox
abbrev pub holds_at : Action → List Deed → Intent → List Mailbox → Bool
holds_at action mine intent boxes = holds_in (intent_holds action mine intent) (intent_validity intent) (box_at (intent_name intent) boxes)

abbrev pub open_at : Meaning → Server → Intent → Queued → Bool
open_at b s intent q = holds_at q.action (ours (suc (due b.queue)) s.history) intent s.boxes

abbrev pub open_by : Meaning → Server → Option Intent → Option Queued → Bool
open_by b s None q = true
open_by b s (Some intent) None = true
open_by b s (Some intent) (Some q) = open_at b s intent q

abbrev pub open_holds : Meaning → Server → Bool
open_holds b s = open_by b s b.pending (due_action b.queue)

-- where the intent is that of an append, the action's identifier is one
abbrev pub NeedsId : Action → Intent → Type 0
NeedsId action (intents.Store name validity uid modseq) = Unit {0}
NeedsId action (intents.Shift from validity uid to) = Unit {0}
NeedsId action (intents.Put to validity uidnext) = IsIdentifier (append_id action)

-- so it is with the pending intent; a sound book has this
abbrev pub HasGoodId : Meaning → Type 0
HasGoodId b = (q : Queued) (intent : Intent) → due_action b.queue ≡ Some q → b.pending ≡ Some intent → NeedsId q.action intent
