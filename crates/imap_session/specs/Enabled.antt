-- What ENABLED tells (RFC 9051, sections 6.3.1 and 7.2.1; RFC 7162, section 3.2.3).
use Rattle.std.specs.Prelude.{ℕ, Bool, false, List}
use Rattle.std.specs.List.{list_any}
use Rattle.imap_model.specs.declared.response.Response.{Response}
use Rattle.imap_model.specs.declared.response.Response.TheVariants as responses
use Rattle.imap_session.specs.Offers.{names}

-- whether a response tells that this was enabled
abbrev pub tells_enabled : List ℕ → Response → Bool
tells_enabled name (responses.Done tag ending code) = false
tells_enabled name (responses.Untagged ending code) = false
tells_enabled name responses.Bye = false
tells_enabled name (responses.Preauth code) = false
tells_enabled name responses.Go = false
tells_enabled name (responses.Capability words) = false
tells_enabled name (responses.Enabled words) = names words name
tells_enabled name (responses.Exists count) = false
tells_enabled name (responses.Fetch fetched) = false
tells_enabled name (responses.Vanished earlier uids) = false
tells_enabled name (responses.Found uids) = false
tells_enabled name responses.Other = false

-- this was enabled, by one of the ENABLED that were told
abbrev pub is_enabled : List ℕ → List Response → Bool
is_enabled name told = list_any (tells_enabled name) told
