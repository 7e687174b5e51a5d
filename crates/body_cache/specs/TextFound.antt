-- The text of a message, as the reply to its FETCH tells it (RFC 9051, sections 6.4.5 and 7.5.2, BODY[]).
use Rattle.std.specs.Prelude.{ℕ, ◌==◌, List, [], ◌∷◌, Option, Some, None, if◌then◌else◌}
use Rattle.imap_model.specs.declared.response.Response.{Response}
use Rattle.imap_model.specs.declared.response.Response.TheVariants as responses
use Rattle.body_cache.specs.declared.found.TextFound.{TextFound}
use Rattle.body_cache.specs.declared.found.TextFound.TheVariants as founds

-- a FETCH of the message tells its text, or lacks it
abbrev pub in_item : Option (List ℕ) → TextFound
in_item None = founds.Lacks
in_item (Some text) = founds.Text text

-- a FETCH of another message, or of none, tells nothing of it
abbrev pub in_fetched : ℕ → Option ℕ → Option (List ℕ) → TextFound
in_fetched uid None item = founds.Gone
in_fetched uid (Some named) item = if named == uid then in_item item else founds.Gone

-- what a response tells of the message's text
abbrev pub in_response : ℕ → Response → TextFound
in_response uid (responses.Done tag ending code) = founds.Gone
in_response uid (responses.Untagged ending code) = founds.Gone
in_response uid responses.Bye = founds.Gone
in_response uid (responses.Preauth code) = founds.Gone
in_response uid responses.Go = founds.Gone
in_response uid (responses.Capability words) = founds.Gone
in_response uid (responses.Enabled words) = founds.Gone
in_response uid (responses.Exists count) = founds.Gone
in_response uid (responses.Fetch fetched) = in_fetched uid fetched.uid fetched.text
in_response uid (responses.Vanished earlier uids) = founds.Gone
in_response uid (responses.Found uids) = founds.Gone
in_response uid responses.Other = founds.Gone

-- of what was told and what is told behind it the last text counts
abbrev pub then_found : TextFound → TextFound → TextFound
then_found before founds.Gone = before
then_found before (founds.Text text) = founds.Text text
then_found founds.Gone founds.Lacks = founds.Lacks
then_found founds.Lacks founds.Lacks = founds.Lacks
then_found (founds.Text text) founds.Lacks = founds.Text text

-- The text of the last FETCH of the message that has one. It is lacking where there is a FETCH of it and none has a text; and the message is gone
-- where there is none.
abbrev pub text_found : ℕ → List Response → TextFound
text_found uid [] = founds.Gone
text_found uid (response ∷ told) = then_found (in_response uid response) (text_found uid told)
