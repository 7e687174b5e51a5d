-- What a reply tells to be gone, or not to be there at all (RFC 7162, section 3.2.10; RFC 9051, section 7.4.1).
use Rattle.std.specs.Prelude.{ℕ, Bool, false, ◌==◌, List}
use Rattle.std.specs.List.{list_any}
use Rattle.mailbox_cache.specs.Rows.{has_uid}
use Rattle.imap_model.specs.declared.response.Response.{Response}
use Rattle.imap_model.specs.declared.response.Response.TheVariants as responses

-- VANISHED tells it, EARLIER or not
abbrev pub tells_gone : ℕ → Response → Bool
tells_gone uid (responses.Done tag ending code) = false
tells_gone uid (responses.Untagged ending code) = false
tells_gone uid responses.Bye = false
tells_gone uid (responses.Preauth code) = false
tells_gone uid responses.Go = false
tells_gone uid (responses.Capability words) = false
tells_gone uid (responses.Enabled words) = false
tells_gone uid (responses.Exists count) = false
tells_gone uid (responses.Fetch fetched) = false
tells_gone uid (responses.Vanished earlier uids) = has_uid uids uid
tells_gone uid (responses.Found uids) = false
tells_gone uid responses.Other = false

-- whether the UID is told to be gone
abbrev pub is_told_gone : List Response → ℕ → Bool
is_told_gone told uid = list_any (tells_gone uid) told

-- EXISTS 0: the mailbox has no message
abbrev pub tells_empty : Response → Bool
tells_empty (responses.Done tag ending code) = false
tells_empty (responses.Untagged ending code) = false
tells_empty responses.Bye = false
tells_empty (responses.Preauth code) = false
tells_empty responses.Go = false
tells_empty (responses.Capability words) = false
tells_empty (responses.Enabled words) = false
tells_empty (responses.Exists count) = count == 0
tells_empty (responses.Fetch fetched) = false
tells_empty (responses.Vanished earlier uids) = false
tells_empty (responses.Found uids) = false
tells_empty responses.Other = false
