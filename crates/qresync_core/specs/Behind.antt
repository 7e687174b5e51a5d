-- What of a reply to SELECT speaks of the mailbox that is selected by it (RFC 9051, section 6.3.2; RFC 7162, section 3.2.11).
use Rattle.std.specs.Prelude.{ℕ, suc, Bool, true, false, List, [], ◌∷◌, drop, if◌then◌else◌}
use Rattle.std.specs.List.{list_any}
use Rattle.imap_model.specs.declared.code.Code.{Code}
use Rattle.imap_model.specs.declared.code.Code.TheVariants as codings
use Rattle.imap_model.specs.declared.response.Response.{Response}
use Rattle.imap_model.specs.declared.response.Response.TheVariants as responses

abbrev pub is_closed_code : Code → Bool
is_closed_code codings.None = false
is_closed_code (codings.Capability words) = false
is_closed_code (codings.UidNext uid) = false
is_closed_code (codings.UidValidity validity) = false
is_closed_code (codings.PermanentFlags flags any) = false
is_closed_code (codings.HighestModSeq modseq) = false
is_closed_code codings.NoModSeq = false
is_closed_code codings.UidNotSticky = false
is_closed_code (codings.AppendUid validity uid) = false
is_closed_code (codings.CopyUid validity source target) = false
is_closed_code (codings.Modified uids) = false
is_closed_code codings.Closed = true
is_closed_code codings.Other = false

-- CLOSED counts as the code of an untagged OK, NO or BAD alone
abbrev pub is_closed : Response → Bool
is_closed (responses.Done tag ending code) = false
is_closed (responses.Untagged ending code) = is_closed_code code
is_closed responses.Bye = false
is_closed (responses.Preauth code) = false
is_closed responses.Go = false
is_closed (responses.Capability words) = false
is_closed (responses.Enabled words) = false
is_closed (responses.Exists count) = false
is_closed (responses.Fetch fetched) = false
is_closed (responses.Vanished earlier uids) = false
is_closed (responses.Found uids) = false
is_closed responses.Other = false

-- how many responses stand up to the last CLOSED, itself among them; none where there is no CLOSED
abbrev pub closed_len : List Response → ℕ
closed_len [] = 0
closed_len (response ∷ told) = if list_any is_closed (response ∷ told) then suc (closed_len told) else 0

-- What stands behind the last CLOSED, and all where there is none: what stands before speaks of the mailbox that was selected.
abbrev pub behind_closed : List Response → List Response
behind_closed told = drop (closed_len told) told
