-- What may be concluded from what was told of a mailbox, then or at an earlier moment: that an intent says what is so, that its command
-- had no effect or its one effect, and which outcome fits (RFC 7162, section 3.1.3; RFC 9051, sections 2.3.1.1 and 6.4.8; RFC 4549,
-- section 4.2).
use Rattle.std.specs.Prelude.{◌≡◌, ℕ, suc, Bool, List, [], ◌∷◌, Option, Some, None}
use Rattle.imap_model.specs.Carrying.{Waiting, Stores, Moves, Appends}
use Rattle.imap_model.specs.Evolving.{GoesOn}
use Rattle.imap_model.specs.Lookups.{box_at, message_at, validity_of}
use Rattle.imap_model.specs.Ours.{ours}
use Rattle.imap_model.specs.WellFormed.{IsWellFormedBox}
use Rattle.imap_model.specs.declared.deed.Deed.{Deed}
use Rattle.imap_model.specs.declared.server.Message.{Message}
use Rattle.imap_model.specs.declared.server.Mailbox.{Mailbox}
use Rattle.imap_model.specs.declared.server.Server.{Server}
use Rattle.action_queue.specs.Queues.{due}
use Rattle.action_queue.specs.Book.{Meaning}
use Rattle.action_queue.specs.declared.outcome.Outcome.TheVariants as outcomes
use Rattle.append_probe.specs.Marked.{at_least, marked}
use Rattle.book_laws.specs.Once.{Fits}
use Rattle.book_laws.specs.Open.{StoreFacts, ShiftFacts, PutFacts}
use Rattle.book_laws.specs.Of.{IsOf, tag_of}
use Rattle.book_laws.specs.Kept.{KeptBook}

-- A row that was told, or a UIDNEXT, makes the facts of an intent whose action has no deed, also later.
pub record IntentsFollow : Type 0 where
  pub store : (uid : ℕ) (m : Message) (b later : Mailbox) → IsWellFormedBox b → message_at uid b.messages ≡ Some m → GoesOn b.highest b later →
      StoreFacts uid m.modseq [] later
  pub shift : (uid : ℕ) (m : Message) (b later : Mailbox) → IsWellFormedBox b → message_at uid b.messages ≡ Some m → GoesOn b.highest b later →
      ShiftFacts uid [] later
  pub put : (id : List ℕ) (validity : ℕ) (b later : Mailbox) → IsWellFormedBox b → GoesOn b.highest b later →
      marked id later.messages ≡ marked id b.messages → PutFacts id b.uidnext validity [] later

-- An open intent had no effect, so that its command may be sent again: the row has the mod-sequence of the intent; the message that is
-- to be moved is there; no message from the recorded UIDNEXT on has the Message-ID.
pub record HadNoEffect : Type 0 where
  pub store : (uid modseq : ℕ) (mine : List Deed) (m : Message) (b : Mailbox) → StoreFacts uid modseq mine b → message_at uid b.messages ≡ Some m →
      m.modseq ≡ modseq → mine ≡ []
  pub shift : (uid : ℕ) (mine : List Deed) (m : Message) (b : Mailbox) → ShiftFacts uid mine b → message_at uid b.messages ≡ Some m → mine ≡ []
  pub put : (id : List ℕ) (uidnext validity : ℕ) (mine : List Deed) (b : Mailbox) → PutFacts id uidnext validity mine b →
      at_least uidnext (marked id b.messages) ≡ [] → mine ≡ []

-- The one message from the recorded UIDNEXT on with the Message-ID is the append's.
abbrev pub HadItsEffect : Type 0
HadItsEffect = (id : List ℕ) (uidnext validity uid : ℕ) (mine : List Deed) (b : Mailbox) → PutFacts id uidnext validity mine b →
    at_least uidnext (marked id b.messages) ≡ uid ∷ [] → Fits (outcomes.Done (Some (record { validity = validity; uid = uid }))) mine

-- The deeds of the action that is due, once its command was carried out: a store is Done without a place, a move and an append where the
-- message went; without effect the action has no deed.
pub record OutcomesFollow (b : Meaning) (s t : Server) (w : Waiting) (of : IsOf b s w) : Type 0 where
  pub store : (selected : Option (List ℕ)) (uid since : ℕ) (add : Bool) (asked : List (List ℕ)) →
      Stores (tag_of (suc (due b.queue)) of.queued) selected uid since add asked s t → Fits (outcomes.Done None) (ours (suc (due b.queue)) t.history)
  pub shift : (selected : Option (List ℕ)) (uid : ℕ) (to : List ℕ) → (e : Moves (tag_of (suc (due b.queue)) of.queued) selected uid to s t) →
      Fits (outcomes.Done (Some (record { validity = validity_of (box_at to t.boxes); uid = e.received }))) (ours (suc (due b.queue)) t.history)
  pub put : (to : List ℕ) (flags : List (List ℕ)) (text : List ℕ) → (e : Appends (tag_of (suc (due b.queue)) of.queued) to flags text s t) →
      Fits (outcomes.Done (Some (record { validity = validity_of (box_at to t.boxes); uid = e.uid }))) (ours (suc (due b.queue)) t.history)
  pub nothing : t ≡ s → ours (suc (due b.queue)) t.history ≡ []

abbrev pub OutcomesFit : Type 0
OutcomesFit = (b : Meaning) (s t : Server) (waiting : Option Waiting) → KeptBook b s waiting → (w : Waiting) (of : IsOf b s w) → OutcomesFollow b s t w of
