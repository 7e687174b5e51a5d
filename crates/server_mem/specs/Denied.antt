-- Where the server in memory answers NO (RFC 9051, section 7.1.2): it answers every other command by OK.
use Rattle.std.specs.Prelude.{◌≡◌, ◌⊎◌, ℕ, ◌<◌, ◌≤◌, Bool, true, false, List, Option, Some, None}
use Rattle.flag_set.specs.FlagSet.{has}
use Rattle.imap_model.specs.Carrying.{deleted}
use Rattle.imap_model.specs.Lawful.{broken_rule}
use Rattle.imap_model.specs.Lookups.{box_at, message_at}
use Rattle.imap_model.specs.PlainServer.{Choices, stored_flags, turn_of}
use Rattle.imap_model.specs.Remarks.{selected_box}
use Rattle.imap_model.specs.declared.command.Command.{Command}
use Rattle.imap_model.specs.declared.command.Command.TheVariants as commands
use Rattle.imap_model.specs.declared.deed.Change.{Change}
use Rattle.imap_model.specs.declared.deed.Change.TheVariants as changes
use Rattle.imap_model.specs.declared.ending.Ending.{Ending}
use Rattle.imap_model.specs.declared.ending.Ending.TheVariants as endings
use Rattle.imap_model.specs.declared.server.Mailbox.{Mailbox}
use Rattle.imap_model.specs.declared.server.Message.{Message}
use Rattle.imap_model.specs.declared.server.Server.{Server}
use Rattle.mail_base.specs.declared.tag.Tag.{Tag}

-- the mailbox that a command names
abbrev pub named : Command → Option (List ℕ)
named commands.Capability = None
named (commands.Login account) = None
named (commands.Plain account) = None
named (commands.Enable rev2) = None
named (commands.Select name since) = Some name
named commands.FetchAll = None
named (commands.FetchRow uid) = None
named (commands.Search from id) = None
named (commands.FetchIds uids) = None
named (commands.FetchText uid) = None
named (commands.Store uid since add flags) = None
named (commands.Shift uid to) = Some to
named (commands.Copy uid to) = Some to
named (commands.Expunge uid) = None
named (commands.Append to flags octets) = Some to
named commands.Logout = None

-- the command is about the selected mailbox
abbrev pub wants_selected : Command → Bool
wants_selected commands.Capability = false
wants_selected (commands.Login account) = false
wants_selected (commands.Plain account) = false
wants_selected (commands.Enable rev2) = false
wants_selected (commands.Select name since) = false
wants_selected commands.FetchAll = true
wants_selected (commands.FetchRow uid) = true
wants_selected (commands.Search from id) = true
wants_selected (commands.FetchIds uids) = true
wants_selected (commands.FetchText uid) = true
wants_selected (commands.Store uid since add flags) = true
wants_selected (commands.Shift uid to) = true
wants_selected (commands.Copy uid to) = true
wants_selected (commands.Expunge uid) = true
wants_selected (commands.Append to flags octets) = false
wants_selected commands.Logout = false

-- the message of the UID is there, in the selected mailbox of this name
pub record IsHere (selected : Option (List ℕ)) (s : Server) (name : List ℕ) (uid : ℕ) (message : Message) : Type 0 where
  pub selection : selected ≡ Some name
  pub box : Mailbox
  pub there : box_at name s.boxes ≡ Some box
  pub found : message_at uid box.messages ≡ Some message

-- what the command would change, and in the mailbox of which name
pub data Makes (selected : Option (List ℕ)) (s : Server) : Command → List ℕ → Change → Type 0 where
  sets : (name : List ℕ) (uid since : ℕ) (add : Bool) (flags : List (List ℕ)) (m : Message) → IsHere selected s name uid m → m.modseq ≤ since
      → Makes selected s (commands.Store uid since add flags) name (changes.SetFlags uid (stored_flags add flags m.flags))
  shifts : (name : List ℕ) (uid : ℕ) (to : List ℕ) (m : Message) (target : Mailbox) → IsHere selected s name uid m → box_at to s.boxes ≡ Some target
      → Makes selected s (commands.Shift uid to) name (changes.Shift uid to target.uidnext)
  copies : (name : List ℕ) (uid : ℕ) (to : List ℕ) (m : Message) (target : Mailbox) → IsHere selected s name uid m → box_at to s.boxes ≡ Some target
      → Makes selected s (commands.Copy uid to) to (changes.Add m.flags m.text target.uidnext)
  drops : (name : List ℕ) (uid : ℕ) (m : Message) → IsHere selected s name uid m → has m.flags deleted ≡ true
      → Makes selected s (commands.Expunge uid) name (changes.Drop uid)
  adds : (to : List ℕ) (flags : List (List ℕ)) (text : List ℕ) (target : Mailbox) → box_at to s.boxes ≡ Some target
      → Makes selected s (commands.Append to flags text) to (changes.Add flags text target.uidnext)

-- A mailbox that the command names isn't there; none is selected; a rule forbids the change; the message changed since; or
-- nothing is appended to the mailbox.
pub data IsDenied (c : Choices) (selected : Option (List ℕ)) (s : Server) (command : Command) : Type 0 where
  missing : (name : List ℕ) → named command ≡ Some name → box_at name s.boxes ≡ None → IsDenied c selected s command
  unselected : wants_selected command ≡ true → selected_box selected s.boxes ≡ None → IsDenied c selected s command
  forbidden : (name : List ℕ) (change : Change) (rule : ℕ) → Makes selected s command name change →
      broken_rule s.boxes name change ≡ Some rule → IsDenied c selected s command
  modified : (name : List ℕ) (uid since : ℕ) (add : Bool) (flags : List (List ℕ)) (m : Message) → command ≡ commands.Store uid since add flags
      → IsHere selected s name uid m → since < m.modseq → IsDenied c selected s command
  closed : (to : List ℕ) (flags : List (List ℕ)) (text : List ℕ) → command ≡ commands.Append to flags text → c.closed ≡ Some to → IsDenied c selected s command

-- a NO where the command is denied, and else an OK
abbrev pub Says : Choices → Option (List ℕ) → Server → Command → Ending → Type 0
Says c selected s command ending = ((ending ≡ endings.No) × IsDenied c selected s command) ⊎ ((ending ≡ endings.Ok) × (IsDenied c selected s command → ⊥))

abbrev pub DeniesExactly : Type 0
DeniesExactly = (c : Choices) (selected : Option (List ℕ)) (tag : Tag) (command : Command) (s : Server) →
    Says c selected s command (turn_of c selected tag command s).replies.ending
