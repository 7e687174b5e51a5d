-- A change as a plain program makes it (RFC 9051, section 2.3.1.1; RFC 7162, section 3.1): the mod-sequence is one above the
-- highest, and after a message came UIDNEXT is one above its UID. A server may choose otherwise.
use Rattle.std.specs.Prelude.{ℕ, ◌+◌, List, [], ◌∷◌, ◌++◌, Option, Some, None}
use Rattle.imap_model.specs.Changes.{deed_of}
use Rattle.imap_model.specs.Lookups.{box_at, put_box, message_at, put_message, without_message, renumbered}
use Rattle.imap_model.specs.declared.server.Message.{Message}
use Rattle.imap_model.specs.declared.server.Mailbox.{Mailbox}
use Rattle.imap_model.specs.declared.server.Server.{Server}
use Rattle.imap_model.specs.declared.deed.Author.{Author}
use Rattle.imap_model.specs.declared.deed.Change.{Change}
use Rattle.imap_model.specs.declared.deed.Change.TheVariants as changes

-- a mailbox with a message more
abbrev pub added : List (List ℕ) → List ℕ → ℕ → Mailbox → Mailbox
added flags text uid b = record b {
  uidnext = uid + 1;
  highest = b.highest + 1;
  messages = b.messages ++ record { uid = uid; flags = flags; modseq = b.highest + 1; text = text } ∷ [];
}

-- a mailbox in which the message that is there under a UID has these flags
abbrev pub with_flags : List (List ℕ) → Option Message → Mailbox → Mailbox
with_flags flags None b = b
with_flags flags (Some m) b = record b { highest = b.highest + 1; messages = put_message (record m { flags = flags; modseq = b.highest + 1 }) b.messages }

abbrev pub reflagged : ℕ → List (List ℕ) → Mailbox → Mailbox
reflagged uid flags b = with_flags flags (message_at uid b.messages) b

-- a mailbox without a message
abbrev pub dropped : ℕ → Mailbox → Mailbox
dropped uid b = record b {
  highest = b.highest + 1;
  messages = without_message uid b.messages;
  gone =
      b.gone ++ record { uid = uid; modseq = b.highest + 1 } ∷ [];
}

-- a mailbox that is renewed
abbrev pub renewed : ℕ → List ℕ → ℕ → ℕ → Mailbox → Mailbox
renewed validity uids uidnext highest b = record b {
  validity = validity;
  uidnext = uidnext;
  highest = highest;
  messages = renumbered uids highest b.messages;
  gone = [];
}

-- the mailboxes with another in place of this one, if there is one
abbrev pub put_changed : (Mailbox → Mailbox) → Option Mailbox → List Mailbox → List Mailbox
put_changed f None boxes = boxes
put_changed f (Some b) boxes = put_box (f b) boxes

-- the mailboxes, of which that of a name is changed
abbrev pub with_box : (Mailbox → Mailbox) → List ℕ → List Mailbox → List Mailbox
with_box f name boxes = put_changed f (box_at name boxes) boxes

-- the message of a UID in a mailbox, if there is one
abbrev pub message_in : ℕ → Option Mailbox → Option Message
message_in uid None = None
message_in uid (Some b) = message_at uid b.messages

-- the mailboxes after a message, if there is one, came to another one
abbrev pub moved : Option Message → List ℕ → ℕ → List Mailbox → List Mailbox
moved None to new boxes = boxes
moved (Some m) to new boxes = with_box (added m.flags m.text new) to boxes

-- the mailboxes after a change in the mailbox of a name
abbrev pub changed : List ℕ → Change → List Mailbox → List Mailbox
changed name (changes.Add flags text uid) boxes = with_box (added flags text uid) name boxes
changed name (changes.SetFlags uid flags) boxes = with_box (reflagged uid flags) name boxes
changed name (changes.Drop uid) boxes = with_box (dropped uid) name boxes
changed name (changes.Shift uid to new) boxes = moved (message_in uid (box_at name boxes)) to new (with_box (dropped uid) name boxes)
changed name (changes.Reset validity uids uidnext highest) boxes = with_box (renewed validity uids uidnext highest) name boxes

-- the server after it
abbrev pub with_change : Author → List ℕ → Change → Server → Server
with_change author name change s = record {
  boxes = changed name change s.boxes;
  history = s.history ++ deed_of author name change (changed name change s.boxes) ∷ [];
}
