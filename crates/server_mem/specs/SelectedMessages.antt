-- The messages of a mailbox, if one is selected.
use Rattle.std.specs.Prelude.{List, [], Option, Some, None}
use Rattle.imap_model.specs.declared.server.Mailbox.{Mailbox}
use Rattle.imap_model.specs.declared.server.Message.{Message}

abbrev pub messages_of : Option Mailbox → List Message
messages_of None = []
messages_of (Some b) = b.messages
