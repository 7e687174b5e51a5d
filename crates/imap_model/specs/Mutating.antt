-- Which commands change a mailbox (RFC 9051, sections 6.3.12 and 6.4.6 to 6.4.9).
use Rattle.std.specs.Prelude.{Bool, true, false}
use Rattle.imap_model.specs.declared.command.Command.{Command}
use Rattle.imap_model.specs.declared.command.Command.TheVariants as commands

-- each of these carries out an action of the user; every other command is a question
abbrev pub is_mutating : Command → Bool
is_mutating commands.Capability = false
is_mutating (commands.Login account) = false
is_mutating (commands.Plain account) = false
is_mutating (commands.Enable rev2) = false
is_mutating (commands.Select name since) = false
is_mutating commands.FetchAll = false
is_mutating (commands.FetchRow uid) = false
is_mutating (commands.Search from id) = false
is_mutating (commands.FetchIds uids) = false
is_mutating (commands.FetchText uid) = false
is_mutating (commands.Store uid since add flags) = true
is_mutating (commands.Shift uid to) = true
is_mutating (commands.Copy uid to) = true
is_mutating (commands.Expunge uid) = true
is_mutating (commands.Append to flags octets) = true
is_mutating commands.Logout = false
