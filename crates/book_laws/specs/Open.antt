-- What a pending intent keeps true in its mailbox, whatever happens there: why its command can't take effect twice, and how its
-- effect shows (RFC 7162, section 3.1.3; RFC 9051, sections 2.3.1.1 and 6.4.8; RFC 4549, section 4.2).
use Rattle.std.specs.Prelude.{◌≡◌, ℕ, suc, ◌≤◌, ◌<◌, List, [], ◌∷◌, Option, Some, None}
use Rattle.imap_model.specs.Lookups.{message_at}
use Rattle.imap_model.specs.Ours.{ours}
use Rattle.imap_model.specs.declared.server.Message.{Message}
use Rattle.imap_model.specs.declared.server.Mailbox.{Mailbox}
use Rattle.imap_model.specs.declared.server.Server.{Server}
use Rattle.imap_model.specs.declared.deed.Deed.{Deed}
use Rattle.action_queue.specs.Queues.{due, due_action}
use Rattle.action_queue.specs.Book.{Meaning}
use Rattle.action_queue.specs.declared.action.Action.{Action}
use Rattle.action_queue.specs.declared.intent.Intent.{Intent}
use Rattle.action_queue.specs.declared.intent.Intent.TheVariants as intents
use Rattle.action_queue.specs.declared.queued.Queued.{Queued}
use Rattle.append_probe.specs.Marked.{at_least, marked}
use Rattle.append_probe.specs.Question.{append_id}
use Rattle.book_laws.specs.Once.{new_uid}
use Rattle.book_laws.specs.InBox.{InBox, InBoxNow}

-- the message isn't there, or has a mod-sequence above this one
abbrev pub RowAbove : ℕ → Option Message → Type 0
RowAbove modseq None = Unit {0}
RowAbove modseq (Some m) = modseq < m.modseq

-- A store on condition of a mod-sequence: once it took effect, the message has a greater one, so that the condition fails.
pub record StoreFacts (uid modseq : ℕ) (mine : List Deed) (b : Mailbox) : Type 0 where
  pub highest : modseq ≤ b.highest
  pub below : uid < b.uidnext
  pub passed : ¬ (mine ≡ []) → RowAbove modseq (message_at uid b.messages)

-- A move: once it took effect, the message isn't there, and its UID never comes again.
pub record ShiftFacts (uid : ℕ) (mine : List Deed) (b : Mailbox) : Type 0 where
  pub below : uid < b.uidnext
  pub left : ¬ (mine ≡ []) → message_at uid b.messages ≡ None

-- the UIDs that these deeds gave
abbrev pub given : List Deed → List (Option ℕ)
given [] = []
given (d ∷ ds) = new_uid d.change ∷ given ds

abbrev pub some_of : List ℕ → List (Option ℕ)
some_of [] = []
some_of (u ∷ us) = Some u ∷ some_of us

-- the deeds put messages under this UIDVALIDITY
abbrev pub AllReceived : ℕ → List Deed → Type 0
AllReceived validity [] = Unit {0}
AllReceived validity (d ∷ ds) = (d.received ≡ validity) × AllReceived validity ds

-- An append: the messages with exactly its Message-ID, from the recorded UIDNEXT on, are those that its deeds added.
pub record PutFacts (id : List ℕ) (uidnext validity : ℕ) (mine : List Deed) (b : Mailbox) : Type 0 where
  pub reached : uidnext ≤ b.uidnext
  pub found : some_of (at_least uidnext (marked id b.messages)) ≡ given mine
  pub received : AllReceived validity mine

-- the mailbox that an intent speaks of
abbrev pub intent_name : Intent → List ℕ
intent_name (intents.Store name validity uid modseq) = name
intent_name (intents.Shift from validity uid to) = from
intent_name (intents.Put to validity uidnext) = to

-- the UIDVALIDITY of that mailbox as the intent was recorded
abbrev pub intent_validity : Intent → ℕ
intent_validity (intents.Store name validity uid modseq) = validity
intent_validity (intents.Shift from validity uid to) = validity
intent_validity (intents.Put to validity uidnext) = validity

-- what an intent of this action, with these deeds, says of its mailbox
abbrev pub IntentFacts : Action → List Deed → Intent → Mailbox → Type 0
IntentFacts action mine (intents.Store name validity uid modseq) b = StoreFacts uid modseq mine b
IntentFacts action mine (intents.Shift from validity uid to) b = ShiftFacts uid mine b
IntentFacts action mine (intents.Put to validity uidnext) b = PutFacts (append_id action) uidnext validity mine b

-- so it is in its mailbox
abbrev pub IsOpen : Action → List Deed → Intent → List Mailbox → Type 0
IsOpen action mine intent boxes = InBox (IntentFacts action mine intent) (intent_name intent) (intent_validity intent) boxes

-- the intent, as one for the action that is due
abbrev pub OpenIntent : Meaning → Intent → Server → Type 0
OpenIntent b intent s = (q : Queued) → due_action b.queue ≡ Some q → IsOpen q.action (ours (suc (due b.queue)) s.history) intent s.boxes

-- so it is as the intent is recorded
abbrev pub IsOpenNow : Action → List Deed → Intent → List Mailbox → Type 0
IsOpenNow action mine intent boxes = InBoxNow (IntentFacts action mine intent) (intent_name intent) (intent_validity intent) boxes

-- the intent that is recorded, as one for the action that is due
abbrev pub OpensNow : Meaning → Intent → Server → Type 0
OpensNow b intent s = (q : Queued) → due_action b.queue ≡ Some q → IsOpenNow q.action (ours (suc (due b.queue)) s.history) intent s.boxes

-- the pending intent, if there is one
abbrev pub Open : Meaning → Server → Type 0
Open b s = (intent : Intent) → b.pending ≡ Some intent → OpenIntent b intent s
