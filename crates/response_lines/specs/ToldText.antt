-- The bytes that tell responses: the line of each in turn, with its CRLF (RFC 9051, sections 2.2.2 and 7).
use Rattle.std.specs.Prelude.{ℕ, ◌+◌, Bool, List, [], ◌∷◌}
use Rattle.imap_model.specs.declared.response.Response.{Response}
use Rattle.imap_model.specs.declared.response.Response.TheVariants as responses
use Rattle.imap_model.specs.declared.server.Message.{Message}
use Rattle.mail_base.specs.declared.tag.Tag.{Tag}
use Rattle.response_lines.specs.LineTexts.{◌⌢◌, line_end, line_of}
use Rattle.response_lines.specs.MessageNumbers.{number_at, place_of}

-- the count of lines without a meaning, up to and with this response
abbrev pub count_other : ℕ → Response → ℕ
count_other before (responses.Done tag ending code) = before
count_other before (responses.Untagged ending code) = before
count_other before responses.Bye = before
count_other before (responses.Preauth code) = before
count_other before responses.Go = before
count_other before (responses.Capability words) = before
count_other before (responses.Enabled words) = before
count_other before (responses.Exists count) = before
count_other before (responses.Fetch f) = before
count_other before (responses.Vanished earlier uids) = before
count_other before (responses.Found uids) = before
count_other before responses.Other = before + 1

-- The lines of what is still told, where IMAP4rev2 isn't offered (`older`), to the command of this tag: the messages are those
-- of the selected mailbox, the last row was of the one at a place, and so many lines without a meaning came before.
abbrev pub lines_from : Bool → Tag → List Message → ℕ → ℕ → List Response → List ℕ
lines_from older tag messages at others [] = []
lines_from older tag messages at others (response ∷ told) =
    line_of (record { older = older; tag = tag; number = number_at (place_of messages at response); others = others }) response
    ⌢ line_end ⌢ lines_from older tag messages (place_of messages at response) (count_other others response) told

-- the lines of all that is told
abbrev pub lines_of : Bool → Tag → List Message → List Response → List ℕ
lines_of older tag messages told = lines_from older tag messages 0 0 told
