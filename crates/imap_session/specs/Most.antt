-- How many bytes a server may tell at once: before the first SELECT only names and texts are due, and a list of capabilities has a few hundred
-- bytes (RFC 9051, sections 6.1.1 and 7.1); from it on whole mailboxes are.
use Rattle.std.specs.Prelude.{ℕ}
use Rattle.imap_model.specs.declared.command.Command.{Command}
use Rattle.imap_model.specs.declared.command.Command.TheVariants as commands

-- the greeting, or a reply before the first SELECT: twice what a line may have
abbrev pub most_before : ℕ
most_before = 2097152

-- a reply from the first SELECT on; to LOGOUT too, as it may tell what changed in a selected mailbox
abbrev pub most_since : ℕ
most_since = 268435456

-- the reply to this command
abbrev pub most_of : Command → ℕ
most_of commands.Capability = most_before
most_of (commands.Login account) = most_before
most_of (commands.Plain account) = most_before
most_of (commands.Enable rev2) = most_before
most_of (commands.Select name since) = most_since
most_of commands.FetchAll = most_since
most_of (commands.FetchRow uid) = most_since
most_of (commands.Search from id) = most_since
most_of (commands.FetchIds uids) = most_since
most_of (commands.FetchText uid) = most_since
most_of (commands.Store uid since add flags) = most_since
most_of (commands.Shift uid to) = most_since
most_of (commands.Copy uid to) = most_since
most_of (commands.Expunge uid) = most_since
most_of (commands.Append to flags text) = most_since
most_of commands.Logout = most_since
