-- The one text of each command (RFC 9051, section 6; RFC 7162, sections 3.1.3 and 3.2.5; RFC 4315, section 2.1), in the parts in which it is sent.
use Rattle.std.specs.Prelude.{ℕ, Bool, Option, Some, None, List, [], ◌∷◌, ◌++◌, if◌then◌else◌, Contains}
use Rattle.base64.specs.Engines.{standard}
use Rattle.base64.specs.GeneralPurpose.{encode_of}
use Rattle.flag_set.specs.FlagText.{list_text}
use Rattle.mail_base.specs.Account.{Credentials}
use Rattle.mail_base.specs.declared.tag.Tag.{Tag}
use Rattle.uid_sets.specs.Spelling.{set_text}
use Rattle.imap_model.specs.Astring.{astring_parts, literal}
use Rattle.imap_model.specs.CommandParts.{line, words, number, crlf, wait, ◌⌢◌}
use Rattle.imap_model.specs.TagText.{tag_parts, IsCommandTag}
use Rattle.imap_model.specs.declared.mark.Mark.{Mark}
use Rattle.imap_model.specs.declared.command.Command.{Command}
use Rattle.imap_model.specs.declared.command.Command.TheVariants as commands

-- the base64 text of NUL, user, NUL, password (RFC 4616, section 2; RFC 4648, section 4)
unfoldable pub response_of : Credentials → List ℕ
response_of account = encode_of standard (0 ∷ (account.user ++ 0 ∷ account.password))

-- what a QRESYNC select adds (RFC 7162, section 3.2.5)
abbrev pub mark_parts : Option Mark → List (List ℕ)
mark_parts None = []
mark_parts (Some mark) = words " (QRESYNC (" ⌢ number mark.validity ⌢ words " " ⌢ number mark.modseq ⌢ words "))"

-- the sign of a STORE: the flags are added, or taken away
abbrev pub sign : Bool → List (List ℕ)
sign added = if added then words "+" else words "-"

-- what stands between the tag with its space and the CRLF that ends the command
abbrev pub command_parts : Command → List (List ℕ)
command_parts commands.Capability = words "CAPABILITY"
command_parts (commands.Login account) = words "LOGIN " ⌢ astring_parts account.user ⌢ words " " ⌢ astring_parts account.password
command_parts (commands.Plain account) = words "AUTHENTICATE PLAIN" ⌢ wait ⌢ line (response_of account)
command_parts (commands.Enable rev2) = if rev2 then words "ENABLE IMAP4rev2 QRESYNC" else words "ENABLE QRESYNC"
command_parts (commands.Select name since) = words "SELECT " ⌢ astring_parts name ⌢ mark_parts since
command_parts commands.FetchAll = words "UID FETCH 1:* (UID FLAGS MODSEQ)"
command_parts (commands.FetchRow uid) = words "UID FETCH " ⌢ number uid ⌢ words " (UID FLAGS MODSEQ)"
command_parts (commands.Search from id) = words "UID SEARCH UID " ⌢ number from ⌢ words ":* HEADER Message-ID " ⌢ astring_parts id
command_parts (commands.FetchIds uids) = words "UID FETCH " ⌢ line (set_text uids) ⌢ words " (UID BODY.PEEK[HEADER.FIELDS (MESSAGE-ID)])"
command_parts (commands.FetchText uid) = words "UID FETCH " ⌢ number uid ⌢ words " (UID BODY.PEEK[])"
command_parts (commands.Store uid since add flags) =
    words "UID STORE " ⌢ number uid ⌢ words " (UNCHANGEDSINCE " ⌢ number since ⌢ words ") " ⌢ sign add ⌢ words "FLAGS (" ⌢ line (list_text flags) ⌢ words ")"
command_parts (commands.Shift uid to) = words "UID MOVE " ⌢ number uid ⌢ words " " ⌢ astring_parts to
command_parts (commands.Copy uid to) = words "UID COPY " ⌢ number uid ⌢ words " " ⌢ astring_parts to
command_parts (commands.Expunge uid) = words "UID EXPUNGE " ⌢ number uid
command_parts (commands.Append to flags octets) = words "APPEND " ⌢ astring_parts to ⌢ words " (" ⌢ line (list_text flags) ⌢ words ") " ⌢ literal octets
command_parts commands.Logout = words "LOGOUT"

-- the command under its tag
abbrev pub parts_of : Tag → Command → List (List ℕ)
parts_of tag command = tag_parts tag ⌢ words " " ⌢ command_parts command ⌢ line crlf

-- what is searched for holds no NUL, which no text of a command can carry
abbrev pub IsCarried : Command → Type 0
IsCarried commands.Capability = Unit {0}
IsCarried (commands.Login account) = Unit {0}
IsCarried (commands.Plain account) = Unit {0}
IsCarried (commands.Enable rev2) = Unit {0}
IsCarried (commands.Select name since) = Unit {0}
IsCarried commands.FetchAll = Unit {0}
IsCarried (commands.FetchRow uid) = Unit {0}
IsCarried (commands.Search from id) = ¬ (Contains id 0)
IsCarried (commands.FetchIds uids) = Unit {0}
IsCarried (commands.FetchText uid) = Unit {0}
IsCarried (commands.Store uid since add flags) = Unit {0}
IsCarried (commands.Shift uid to) = Unit {0}
IsCarried (commands.Copy uid to) = Unit {0}
IsCarried (commands.Expunge uid) = Unit {0}
IsCarried (commands.Append to flags octets) = Unit {0}
IsCarried commands.Logout = Unit {0}

-- the command can be sent under the tag
pub record IsWritable (tag : Tag) (command : Command) : Type 0 where
  pub tagged : IsCommandTag tag
  pub carried : IsCarried command
