-- What a server keeps true of its mailboxes (RFC 9051, section 2.3.1.1; RFC 7162, section 3.1).
use Rattle.std.specs.Prelude.{◌≡◌, ℕ, ◌+◌, ◌≤◌, ◌<◌, List, [], ◌∷◌, Contains, Some, None}
use Rattle.imap_model.specs.Lookups.{box_at, message_at, gone_at}
use Rattle.imap_model.specs.declared.server.Message.{Message}
use Rattle.imap_model.specs.declared.server.Gone.{Gone}
use Rattle.imap_model.specs.declared.server.Mailbox.{Mailbox}

-- messages rise by UID, from this number on
abbrev pub Rises : ℕ → List Message → Type 0
Rises least [] = Unit {0}
Rises least (m ∷ ms) = (least ≤ m.uid) × Rises (m.uid + 1) ms

-- no UID went twice
abbrev pub GoOnce : List Gone → Type 0
GoOnce [] = Unit {0}
GoOnce (g ∷ gs) = (gone_at g.uid gs ≡ None) × GoOnce gs

-- no two mailboxes have one name
abbrev pub Differ : List Mailbox → Type 0
Differ [] = Unit {0}
Differ (b ∷ bs) = (box_at b.name bs ≡ None) × Differ bs

-- No number here has a lower bound, and the first UIDNEXT and highest mod-sequence have no upper one. That is harmless: a line
-- spells no UID, UIDVALIDITY or mod-sequence of 0 and none that is too large (Numbers), so what can't be spelled is never told.
--
-- Each UID, there or gone, is below UIDNEXT, and each mod-sequence at most the highest; no UID is both there and gone, and
-- no text holds a NUL.
pub record IsWellFormedBox (b : Mailbox) : Type 0 where
  pub rise : Rises 0 b.messages
  pub below : (u : ℕ) (m : Message) → message_at u b.messages ≡ Some m → u < b.uidnext
  pub numbered : (u : ℕ) (m : Message) → message_at u b.messages ≡ Some m → m.modseq ≤ b.highest
  pub plain : (u : ℕ) (m : Message) → message_at u b.messages ≡ Some m → ¬ (Contains m.text 0)
  pub gone_below : (u k : ℕ) → gone_at u b.gone ≡ Some k → u < b.uidnext
  pub gone_numbered : (u k : ℕ) → gone_at u b.gone ≡ Some k → k ≤ b.highest
  pub apart : (u k : ℕ) → gone_at u b.gone ≡ Some k → message_at u b.messages ≡ None
  pub once : GoOnce b.gone

-- a server without mailboxes is well formed
pub record IsWellFormed (boxes : List Mailbox) : Type 0 where
  pub names : Differ boxes
  pub each : (name : List ℕ) (b : Mailbox) → box_at name boxes ≡ Some b → IsWellFormedBox b
