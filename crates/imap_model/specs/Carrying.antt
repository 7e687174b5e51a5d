-- What a command does to the server where it is answered OK (RFC 9051, sections 6.3.12 and 6.4.6 to 6.4.9; RFC 4315, section 2.1; RFC 7162,
-- section 3.1.3).
use Rattle.std.specs.Prelude.{◌≡◌, ℕ, ◌≤◌, ◌⊎◌, Bool, true, false, IsTrue, not, ◌&&◌, ◌||◌, List, Option, Some, codes}
use Rattle.flag_set.specs.FlagSet.{has}
use Rattle.mail_base.specs.declared.tag.Tag.{Tag}
use Rattle.imap_model.specs.Lookups.{box_at, message_at}
use Rattle.imap_model.specs.Changes.{Changes}
use Rattle.imap_model.specs.declared.server.Message.{Message}
use Rattle.imap_model.specs.declared.server.Mailbox.{Mailbox}
use Rattle.imap_model.specs.declared.server.Server.{Server}
use Rattle.imap_model.specs.declared.deed.Author.TheVariants.{Ours}
use Rattle.imap_model.specs.declared.deed.Change.TheVariants as changes
use Rattle.imap_model.specs.declared.command.Command.{Command}
use Rattle.imap_model.specs.declared.command.Command.TheVariants as commands

-- A command whose last byte has arrived and that isn't carried out, with the mailbox that is selected, if one is.
pub record Waiting : Type 0 where
  pub selected : Option (List ℕ)
  pub tag : Tag
  pub command : Command

-- a set with the asked flags, or without them
abbrev pub IsChanged : Bool → List (List ℕ) → List (List ℕ) → List (List ℕ) → Type 0
IsChanged true asked old new = (key : List ℕ) → has new key ≡ (has old key || has asked key)
IsChanged false asked old new = (key : List ℕ) → has new key ≡ (has old key && not (has asked key))

-- the message of this UID is in the selected mailbox
pub record IsThere (selected : Option (List ℕ)) (uid : ℕ) (old : Server) : Type 0 where
  pub name : List ℕ
  pub is_selected : selected ≡ Some name
  pub box : Mailbox
  pub named : box_at name old.boxes ≡ Some box
  pub message : Message
  pub there : message_at uid box.messages ≡ Some message

-- the message has a mod-sequence of at most the mark, and gets or loses the flags
pub record Stores (tag : Tag) (selected : Option (List ℕ)) (uid since : ℕ) (add : Bool) (asked : List (List ℕ)) (old new : Server) : Type 0 where
  pub found : IsThere selected uid old
  pub since_then : found.message.modseq ≤ since
  pub flags : List (List ℕ)
  pub changed : IsChanged add asked found.message.flags flags
  pub becomes : Changes old.boxes (Ours tag) found.name (changes.SetFlags uid flags) old new

-- the message isn't there, or has a greater mod-sequence, and nothing changes
pub record StoresNothing (selected : Option (List ℕ)) (uid since : ℕ) (old new : Server) : Type 0 where
  pub greater : (found : IsThere selected uid old) → found.message.modseq ≤ since → ⊥
  pub stays : new ≡ old

-- the message goes to the other mailbox
pub record Moves (tag : Tag) (selected : Option (List ℕ)) (uid : ℕ) (to : List ℕ) (old new : Server) : Type 0 where
  pub found : IsThere selected uid old
  pub received : ℕ
  pub becomes : Changes old.boxes (Ours tag) found.name (changes.Shift uid to received) old new

-- the message isn't there, and nothing changes: of a MOVE, and of a COPY
pub record MovesNothing (selected : Option (List ℕ)) (uid : ℕ) (old new : Server) : Type 0 where
  pub absent : IsThere selected uid old → ⊥
  pub stays : new ≡ old

-- A message with its flags and its text comes to the mailbox, and the message itself stays. The mailbox may be the selected one, where it comes
-- a second time (RFC 9051, section 6.4.7).
pub record Copies (tag : Tag) (selected : Option (List ℕ)) (uid : ℕ) (to : List ℕ) (old new : Server) : Type 0 where
  pub found : IsThere selected uid old
  pub received : ℕ
  pub becomes : Changes old.boxes (Ours tag) to (changes.Add found.message.flags found.message.text received) old new

-- the flag of a message that an EXPUNGE takes away, as it is kept: in lower case (RFC 9051, section 2.3.2)
abbrev pub deleted : List ℕ
deleted = codes "\\deleted"

-- the message is there, and is marked as deleted
pub record IsDeleted (selected : Option (List ℕ)) (uid : ℕ) (old : Server) : Type 0 where
  pub found : IsThere selected uid old
  pub marked : IsTrue (has found.message.flags deleted)

-- the message is marked as deleted, and goes
pub record Expunges (tag : Tag) (selected : Option (List ℕ)) (uid : ℕ) (old new : Server) : Type 0 where
  pub is : IsDeleted selected uid old
  pub becomes : Changes old.boxes (Ours tag) is.found.name (changes.Drop uid) old new

-- the message isn't there, or isn't marked as deleted, and nothing changes
pub record ExpungesNothing (selected : Option (List ℕ)) (uid : ℕ) (old new : Server) : Type 0 where
  pub not_deleted : IsDeleted selected uid old → ⊥
  pub stays : new ≡ old

-- the message comes to the mailbox
pub record Appends (tag : Tag) (to : List ℕ) (flags : List (List ℕ)) (text : List ℕ) (old new : Server) : Type 0 where
  pub uid : ℕ
  pub becomes : Changes old.boxes (Ours tag) to (changes.Add flags text uid) old new

-- what an OK says of the server; a question changes nothing
abbrev pub Accepted : Option (List ℕ) → Tag → Command → Server → Server → Type 0
Accepted selected tag commands.Capability old new = new ≡ old
Accepted selected tag (commands.Login account) old new = new ≡ old
Accepted selected tag (commands.Plain account) old new = new ≡ old
Accepted selected tag (commands.Enable rev2) old new = new ≡ old
Accepted selected tag (commands.Select name since) old new = new ≡ old
Accepted selected tag commands.FetchAll old new = new ≡ old
Accepted selected tag (commands.FetchRow uid) old new = new ≡ old
Accepted selected tag (commands.Search from id) old new = new ≡ old
Accepted selected tag (commands.FetchIds uids) old new = new ≡ old
Accepted selected tag (commands.FetchText uid) old new = new ≡ old
Accepted selected tag (commands.Store uid since add flags) old new = Stores tag selected uid since add flags old new ⊎ StoresNothing selected uid since old new
Accepted selected tag (commands.Shift uid to) old new = Moves tag selected uid to old new ⊎ MovesNothing selected uid old new
Accepted selected tag (commands.Copy uid to) old new = Copies tag selected uid to old new ⊎ MovesNothing selected uid old new
Accepted selected tag (commands.Expunge uid) old new = Expunges tag selected uid old new ⊎ ExpungesNothing selected uid old new
Accepted selected tag (commands.Append to flags octets) old new = Appends tag to flags octets old new
Accepted selected tag commands.Logout old new = new ≡ old

-- a command that is carried out: refused, which changes nothing, or accepted
abbrev pub Carries : Waiting → Server → Server → Type 0
Carries w old new = (new ≡ old) ⊎ Accepted w.selected w.tag w.command old new
