-- The parts of a command's text, as far as they have come (RFC 9051, sections 4.3 and 6).
use Rattle.std.specs.Prelude.{◌≡◌, ℕ, List, ◌∷◌, ◌++◌, Option, Some, None}
use Rattle.imap_model.specs.CommandText.{parts_of}
use Rattle.imap_model.specs.Held.{IsSent}
use Rattle.imap_model.specs.declared.command.Command.{Command}
use Rattle.imap_model.specs.declared.command.Command.TheVariants as commands
use Rattle.mail_base.specs.declared.tag.Tag.{Tag}

-- the parts are the whole text of the command under the tag
pub record IsWhole (tag : Tag) (command : Command) (parts : List (List ℕ)) : Type 0 where
  pub sent : IsSent tag command
  pub text : parts_of tag command ≡ parts

-- the parts are the front of such a text: another part is awaited behind them
pub record IsFront (tag : Tag) (command : Command) (parts : List (List ℕ)) : Type 0 where
  pub sent : IsSent tag command
  pub next : List ℕ
  pub behind : List (List ℕ)
  pub text : parts_of tag command ≡ parts ++ next ∷ behind

-- the parts are neither a text nor the front of one
pub record IsNoText (parts : List (List ℕ)) : Type 0 where
  pub whole : (tag : Tag) (command : Command) → IsWhole tag command parts → ⊥
  pub front : (tag : Tag) (command : Command) → IsFront tag command parts → ⊥

-- the mailbox that an APPEND names
abbrev pub append_of : Command → Option (List ℕ)
append_of commands.Capability = None
append_of (commands.Login account) = None
append_of (commands.Plain account) = None
append_of (commands.Enable rev2) = None
append_of (commands.Select name since) = None
append_of commands.FetchAll = None
append_of (commands.FetchRow uid) = None
append_of (commands.Search from id) = None
append_of (commands.FetchIds uids) = None
append_of (commands.FetchText uid) = None
append_of (commands.Store uid since add flags) = None
append_of (commands.Shift uid to) = None
append_of (commands.Copy uid to) = None
append_of (commands.Expunge uid) = None
append_of (commands.Append to flags octets) = Some to
append_of commands.Logout = None
