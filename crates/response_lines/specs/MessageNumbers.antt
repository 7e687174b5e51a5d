-- The message number of a row: the place of its message in the mailbox, counted from 1 (RFC 9051, section 2.3.1.2).
use Rattle.std.specs.Prelude.{ℕ, ◌+◌, ◌==◌, nat_lt, if◌then◌else◌, List, drop, Option, Some, None}
use Rattle.std.specs.List.{position}
use Rattle.std.specs.Option.{unwrap_or}
use Rattle.imap_model.specs.declared.response.Response.{Response}
use Rattle.imap_model.specs.declared.response.Response.TheVariants as responses
use Rattle.imap_model.specs.declared.server.Message.{Message}

-- the place of the first message with this UID from a place on, counted from 0, and that place where there is none: rows come
-- in the order of the mailbox
abbrev pub place_from : List Message → ℕ → Option ℕ → ℕ
place_from messages at None = at
place_from messages at (Some uid) = at + unwrap_or (position (λ message. message.uid == uid) (drop at messages)) 0

-- the place of the message that a response tells of, looked for from a place on
abbrev pub place_of : List Message → ℕ → Response → ℕ
place_of messages at (responses.Done tag ending code) = at
place_of messages at (responses.Untagged ending code) = at
place_of messages at responses.Bye = at
place_of messages at (responses.Preauth code) = at
place_of messages at responses.Go = at
place_of messages at (responses.Capability words) = at
place_of messages at (responses.Enabled words) = at
place_of messages at (responses.Exists count) = at
place_of messages at (responses.Fetch f) = place_from messages at f.uid
place_of messages at (responses.Vanished earlier uids) = at
place_of messages at (responses.Found uids) = at
place_of messages at responses.Other = at

-- the number of the message at a place, as far as 32 bits tell it
abbrev pub number_at : ℕ → ℕ
number_at at = if nat_lt at 4294967295 then at + 1 else 4294967295
