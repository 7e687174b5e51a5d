-- What one change of a mailbox does, and what others do at one moment (RFC 9051, sections 2.3.1.1 and 2.3.2; RFC 7162, section 3.1).
use Rattle.std.specs.Prelude.{◌≡◌, ◌≢◌, ℕ, ◌+◌, ◌-◌, ◌≤◌, ◌<◌, ◌^◌, max, List, [], ◌∷◌, ◌++◌, length, Contains, Some}
use Rattle.imap_model.specs.Lookups.{box_at, put_box, message_at, put_message, without_message, renumbered, highest_of, validity_of}
use Rattle.imap_model.specs.declared.server.Message.{Message}
use Rattle.imap_model.specs.declared.server.Mailbox.{Mailbox}
use Rattle.imap_model.specs.declared.server.Server.{Server}
use Rattle.imap_model.specs.declared.deed.Deed.{Deed}
use Rattle.imap_model.specs.declared.deed.Author.{Author}
use Rattle.imap_model.specs.declared.deed.Author.TheVariants.{Other}
use Rattle.imap_model.specs.declared.deed.Change.{Change}
use Rattle.imap_model.specs.declared.deed.Change.TheVariants as changes

-- A mod-sequence for a change: above the floor, which is the highest of the mailbox as the moment began.
pub record IsNext (floor : ℕ) (old : Mailbox) (modseq : ℕ) : Type 0 where
  pub room : old.highest < 2 ^ 63 - 1
  pub above : floor < modseq
  pub fits : modseq < 2 ^ 63

-- A message comes last, under a UID that none had; UIDNEXT is above it from then on.
pub record Adds (floor : ℕ) (flags : List (List ℕ)) (text : List ℕ) (uid : ℕ) (old new : Mailbox) : Type 0 where
  pub fresh : old.uidnext ≤ uid
  pub uid_fits : uid < 2 ^ 32 - 1
  pub plain : ¬ (Contains text 0)
  pub modseq : ℕ
  pub is_next : IsNext floor old modseq
  pub next : ℕ
  pub beyond : uid < next
  pub next_fits : next < 2 ^ 32
  pub becomes : new ≡ record old {
    uidnext = next;
    highest = max old.highest modseq;
    messages =
        old.messages ++ record { uid = uid; flags = flags; modseq = modseq; text = text } ∷ [];
  }

-- a message gets these flags
pub record Sets (floor uid : ℕ) (flags : List (List ℕ)) (old new : Mailbox) : Type 0 where
  pub message : Message
  pub there : message_at uid old.messages ≡ Some message
  pub modseq : ℕ
  pub is_next : IsNext floor old modseq
  pub becomes : new ≡ record old { highest = max old.highest modseq; messages = put_message (record message { flags = flags; modseq = modseq }) old.messages }

-- a message goes
pub record Drops (floor uid : ℕ) (old new : Mailbox) : Type 0 where
  pub message : Message
  pub there : message_at uid old.messages ≡ Some message
  pub modseq : ℕ
  pub is_next : IsNext floor old modseq
  pub becomes : new ≡ record old {
    highest = max old.highest modseq;
    messages = without_message uid old.messages;
    gone =
        old.gone ++ record { uid = uid; modseq = modseq } ∷ [];
  }

-- numbers rise, from this one on and below that one
abbrev pub RiseBelow : ℕ → ℕ → List ℕ → Type 0
RiseBelow from below [] = Unit {0}
RiseBelow from below (u ∷ us) = (from ≤ u) × (u < below) × RiseBelow (u + 1) below us

-- A mailbox is renewed under a greater UIDVALIDITY: its messages get these UIDs, in their order, and this mod-sequence; which UIDs went is
-- forgotten.
pub record Resets (validity : ℕ) (uids : List ℕ) (uidnext highest : ℕ) (old new : Mailbox) : Type 0 where
  pub above : old.validity < validity
  pub rise : RiseBelow 1 uidnext uids
  pub as_many : length uids ≡ length old.messages
  pub becomes : new ≡ record old {
    validity = validity;
    uidnext = uidnext;
    highest = highest;
    messages = renumbered uids highest old.messages;
    gone = [];
  }

-- the mailbox of this name becomes another, and the others stay
pub record Rewrites (Becomes : Mailbox → Mailbox → Type 0) (name : List ℕ) (old new : List Mailbox) : Type 0 where
  pub before : Mailbox
  pub after : Mailbox
  pub there : box_at name old ≡ Some before
  pub becomes : Becomes before after
  pub put : new ≡ put_box after old

-- a message goes, and comes to another mailbox with its flags and its text
pub record Shifts (floor : List ℕ → ℕ) (name : List ℕ) (uid : ℕ) (to : List ℕ) (received : ℕ) (old new : List Mailbox) : Type 0 where
  pub apart : to ≢ name
  pub source : Mailbox
  pub message : Message
  pub named : box_at name old ≡ Some source
  pub there : message_at uid source.messages ≡ Some message
  pub middle : List Mailbox
  pub leaves : Rewrites (Drops (floor name) uid) name old middle
  pub comes : Rewrites (Adds (floor to) message.flags message.text received) to middle new

-- the highest of a mailbox as the moment began
abbrev pub floor_of : List Mailbox → List ℕ → ℕ
floor_of base name = highest_of (box_at name base)

-- what a change does to the mailboxes; `base` are the mailboxes as the moment began
abbrev pub Effect : List Mailbox → List ℕ → Change → List Mailbox → List Mailbox → Type 0
Effect base name (changes.Add flags text uid) old new = Rewrites (Adds (floor_of base name) flags text uid) name old new
Effect base name (changes.SetFlags uid flags) old new = Rewrites (Sets (floor_of base name) uid flags) name old new
Effect base name (changes.Drop uid) old new = Rewrites (Drops (floor_of base name) uid) name old new
Effect base name (changes.Shift uid to received) old new = Shifts (floor_of base) name uid to received old new
Effect base name (changes.Reset validity uids uidnext highest) old new = Rewrites (Resets validity uids uidnext highest) name old new

-- the mailbox that a change puts a message in, or the changed one
abbrev pub receiver : List ℕ → Change → List ℕ
receiver name (changes.Add flags text uid) = name
receiver name (changes.SetFlags uid flags) = name
receiver name (changes.Drop uid) = name
receiver name (changes.Shift uid to received) = to
receiver name (changes.Reset validity uids uidnext highest) = name

-- a change as the history keeps it
abbrev pub deed_of : Author → List ℕ → Change → List Mailbox → Deed
deed_of author name change boxes = record {
  author = author;
  name = name;
  validity = validity_of (box_at name boxes);
  received = validity_of (box_at (receiver name change) boxes);
  change = change;
}

-- one change, by an author, in the mailbox of a name
pub record Changes (base : List Mailbox) (author : Author) (name : List ℕ) (change : Change) (old new : Server) : Type 0 where
  pub effect : Effect base name change old.boxes new.boxes
  pub history : new.history ≡ old.history ++ deed_of author name change new.boxes ∷ []

-- Changes by others at one moment, none or more: each has a mod-sequence above those from before it, and several may share one.
pub data Batch (base : List Mailbox) : Server → Server → Type 0 where
  none : {s : Server} → Batch base s s
  more : {s m t : Server} (name : List ℕ) (change : Change) → Changes base Other name change s m → Batch base m t → Batch base s t
