-- Which command a server has no ground to refuse (RFC 9051, sections 6 and 7.1.2).
use Rattle.std.specs.Prelude.{◌≢◌, ℕ, List, Option, None}
use Rattle.imap_model.specs.Carrying.{Waiting}
use Rattle.imap_model.specs.Lookups.{box_at}
use Rattle.imap_model.specs.Remarks.{selected_box}
use Rattle.imap_model.specs.declared.command.Command.{Command}
use Rattle.imap_model.specs.declared.command.Command.TheVariants as commands
use Rattle.imap_model.specs.declared.server.Server.{Server}

-- a mailbox of this name is there
abbrev pub IsBox : List ℕ → Server → Type 0
IsBox name s = box_at name s.boxes ≢ None

-- a mailbox is selected, and is there
abbrev pub SelectsBox : Option (List ℕ) → Server → Type 0
SelectsBox selected s = selected_box selected s.boxes ≢ None

-- The command has what it needs, where this is selected: SELECT its mailbox, a question about the selected mailbox one that is there, and a
-- question about none needs none. What changes a mailbox may be refused at any time (that is a conflict).
abbrev pub HasWhatItNeeds : Command → Option (List ℕ) → Server → Type 0
HasWhatItNeeds commands.Capability selected s = Unit {0}
HasWhatItNeeds (commands.Login account) selected s = Unit {0}
HasWhatItNeeds (commands.Plain account) selected s = Unit {0}
HasWhatItNeeds (commands.Enable rev2) selected s = Unit {0}
HasWhatItNeeds (commands.Select name since) selected s = IsBox name s
HasWhatItNeeds commands.FetchAll selected s = SelectsBox selected s
HasWhatItNeeds (commands.FetchRow uid) selected s = SelectsBox selected s
HasWhatItNeeds (commands.Search from id) selected s = SelectsBox selected s
HasWhatItNeeds (commands.FetchIds uids) selected s = SelectsBox selected s
HasWhatItNeeds (commands.FetchText uid) selected s = SelectsBox selected s
HasWhatItNeeds (commands.Store uid since add flags) selected s = ⊥
HasWhatItNeeds (commands.Shift uid to) selected s = ⊥
HasWhatItNeeds (commands.Copy uid to) selected s = ⊥
HasWhatItNeeds (commands.Expunge uid) selected s = ⊥
HasWhatItNeeds (commands.Append to flags text) selected s = ⊥
HasWhatItNeeds commands.Logout selected s = Unit {0}

-- the command that waits there can't be refused for want of a mailbox
abbrev pub IsGrantable : Waiting → Server → Type 0
IsGrantable w s = HasWhatItNeeds w.command w.selected s
