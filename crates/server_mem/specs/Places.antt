-- Where a list of mailboxes has the one of a name, and a list of messages the one of a UID.
use Rattle.std.specs.Prelude.{◌≡◌, ℕ, ◌<◌, List, Some, length, slice_get, slice_set}
use Rattle.imap_model.specs.Lookups.{box_at, put_box, message_at, put_message}
use Rattle.imap_model.specs.declared.server.Message.{Message}
use Rattle.imap_model.specs.declared.server.Mailbox.{Mailbox}

-- the mailbox of this name stands there, and one that is put in its place has that place
pub record IsPlaceOf (name : List ℕ) (boxes : List Mailbox) (at : ℕ) : Type 0 where
  pub within : at < length boxes
  pub box : Mailbox
  pub there : slice_get boxes at ≡ Some box
  pub found : box_at name boxes ≡ Some box
  pub put : (new : Mailbox) → new.name ≡ name → put_box new boxes ≡ slice_set boxes at new

-- the message of this UID stands there, and one that is put in its place has that place
pub record IsPlaceOfMessage (uid : ℕ) (messages : List Message) (at : ℕ) : Type 0 where
  pub within : at < length messages
  pub message : Message
  pub there : slice_get messages at ≡ Some message
  pub found : message_at uid messages ≡ Some message
  pub put : (new : Message) → new.uid ≡ uid → put_message new messages ≡ slice_set messages at new

-- this is the mailbox of the name, which stands there
pub record IsBoxOf (name : List ℕ) (boxes : List Mailbox) (at : ℕ) (box : Mailbox) : Type 0 where
  pub within : at < length boxes
  pub found : box_at name boxes ≡ Some box
  pub named : box.name ≡ name
  pub put : (new : Mailbox) → new.name ≡ name → put_box new boxes ≡ slice_set boxes at new

-- this is the message of the UID, which stands there
pub record IsMessageOf (uid : ℕ) (messages : List Message) (at : ℕ) (message : Message) : Type 0 where
  pub within : at < length messages
  pub found : message_at uid messages ≡ Some message
  pub is : message.uid ≡ uid
  pub put : (new : Message) → new.uid ≡ uid → put_message new messages ≡ slice_set messages at new
