-- A turn as it is worked out before anything changes.
use Rattle.std.specs.Prelude.{Bool, true, false, List, [], ◌∷◌, ◌++◌, Option, Some, None, length}
use Rattle.imap_model.specs.Lookups.{message_at}
use Rattle.imap_model.specs.UidLists.{set_of}
use Rattle.imap_model.specs.declared.code.Code.TheVariants as codings
use Rattle.imap_model.specs.declared.command.Command.{Command}
use Rattle.imap_model.specs.declared.command.Command.TheVariants as commands
use Rattle.imap_model.specs.declared.replies.Replies.{Replies}
use Rattle.imap_model.specs.ToldRows.{told_flags}
use Rattle.imap_model.specs.declared.response.Response.{Response}
use Rattle.imap_model.specs.declared.response.Response.TheVariants as responses
use Rattle.imap_model.specs.declared.server.Mailbox.{Mailbox}
use Rattle.imap_model.specs.PlainServer as plain
use Rattle.imap_model.specs.declared.server.Server.{Server}
use Rattle.server_mem.specs.declared.turn.Made.{Made}
use Rattle.server_mem.specs.declared.turn.Turn.{Turn}

-- the server after a change, if one was made
abbrev pub after : Option Made → Server → Server
after None s = s
after (Some made) s = record { boxes = made.boxes; history = s.history ++ made.deed ∷ [] }

-- what the turn comes to at this server
abbrev pub comes_to : Turn → Server → plain.Turn
comes_to t s = record { replies = t.replies; server = after t.made s; selected = t.selected }

-- what a question about a mailbox is answered
abbrev pub reply_of : plain.Choices → Mailbox → Command → Replies
reply_of c b commands.Capability = plain.denied codings.Other
reply_of c b (commands.Login account) = plain.denied codings.Other
reply_of c b (commands.Plain account) = plain.denied codings.Other
reply_of c b (commands.Enable rev2) = plain.denied codings.Other
reply_of c b (commands.Select name since) = plain.denied codings.Other
reply_of c b commands.FetchAll = plain.accepted (plain.rows_where plain.any_message b.messages) (plain.fetch_code c b)
reply_of c b (commands.FetchRow uid) = plain.accepted (plain.row_if (message_at uid b.messages)) (plain.fetch_code c b)
reply_of c b (commands.Search from id) = plain.accepted (responses.Found (set_of (plain.found_in from id b.messages)) ∷ []) codings.None
reply_of c b (commands.FetchIds uids) = plain.accepted (plain.ids_in uids b.messages) (plain.fetch_code c b)
reply_of c b (commands.FetchText uid) = plain.accepted (plain.text_if (message_at uid b.messages)) (plain.fetch_code c b)
reply_of c b (commands.Store uid since add flags) = plain.denied codings.Other
reply_of c b (commands.Shift uid to) = plain.denied codings.Other
reply_of c b (commands.Copy uid to) = plain.denied codings.Other
reply_of c b (commands.Expunge uid) = plain.denied codings.Other
reply_of c b (commands.Append to flags octets) = plain.denied codings.Other
reply_of c b commands.Logout = plain.denied codings.Other

-- the command asks about the selected mailbox
abbrev pub is_question : Command → Bool
is_question commands.Capability = false
is_question (commands.Login account) = false
is_question (commands.Plain account) = false
is_question (commands.Enable rev2) = false
is_question (commands.Select name since) = false
is_question commands.FetchAll = true
is_question (commands.FetchRow uid) = true
is_question (commands.Search from id) = true
is_question (commands.FetchIds uids) = true
is_question (commands.FetchText uid) = true
is_question (commands.Store uid since add flags) = false
is_question (commands.Shift uid to) = false
is_question (commands.Copy uid to) = false
is_question (commands.Expunge uid) = false
is_question (commands.Append to flags octets) = false
is_question commands.Logout = false

-- the state of a mailbox, as it is told at a SELECT
abbrev pub state_of : plain.Choices → Mailbox → List Response
state_of c b =
    responses.Exists (length b.messages) ∷ plain.coded (codings.PermanentFlags (told_flags c.flags) c.any) ∷ plain.coded (codings.UidValidity b.validity)
    ∷ plain.coded (codings.UidNext b.uidnext) ∷ plain.coded (codings.HighestModSeq b.highest) ∷ []

-- the command asks for no mailbox
abbrev pub is_general : Command → Bool
is_general commands.Capability = true
is_general (commands.Login account) = true
is_general (commands.Plain account) = true
is_general (commands.Enable rev2) = true
is_general (commands.Select name since) = false
is_general commands.FetchAll = false
is_general (commands.FetchRow uid) = false
is_general (commands.Search from id) = false
is_general (commands.FetchIds uids) = false
is_general (commands.FetchText uid) = false
is_general (commands.Store uid since add flags) = false
is_general (commands.Shift uid to) = false
is_general (commands.Copy uid to) = false
is_general (commands.Expunge uid) = false
is_general (commands.Append to flags octets) = false
is_general commands.Logout = true
