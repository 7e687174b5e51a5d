-- Which flags can be changed for good in the selected mailbox (RFC 9051, sections 6.3.2 and 7.1, PERMANENTFLAGS).
use Rattle.std.specs.Prelude.{ℕ, Bool, true, ◌&&◌, ◌||◌, List, [], ◌∷◌, Option, Some, None}
use Rattle.flag_set.specs.Flag.{is_keyword}
use Rattle.flag_set.specs.FlagSet.{has}
use Rattle.imap_model.specs.declared.code.Code.{Code}
use Rattle.imap_model.specs.declared.code.Code.TheVariants as codings
use Rattle.imap_model.specs.declared.replies.Replies.{Replies}
use Rattle.imap_model.specs.declared.response.Response.{Response}
use Rattle.imap_model.specs.declared.response.Response.TheVariants as responses
use Rattle.imap_session.specs.declared.permits.Permits.{Permits}

-- the last PERMANENTFLAGS that was told counts
abbrev pub behind_code : Option Permits → Code → Option Permits
behind_code told codings.None = told
behind_code told (codings.Capability words) = told
behind_code told (codings.UidNext uid) = told
behind_code told (codings.UidValidity validity) = told
behind_code told (codings.PermanentFlags flags any) = Some (record { flags = flags; any = any })
behind_code told (codings.HighestModSeq modseq) = told
behind_code told codings.NoModSeq = told
behind_code told codings.UidNotSticky = told
behind_code told (codings.AppendUid validity uid) = told
behind_code told (codings.CopyUid validity source target) = told
behind_code told (codings.Modified uids) = told
behind_code told codings.Closed = told
behind_code told codings.Other = told

-- CLOSED, as the code of an untagged OK, NO or BAD, says that what was told is of another mailbox
abbrev pub behind_untagged : Option Permits → Code → Option Permits
behind_untagged told codings.None = told
behind_untagged told (codings.Capability words) = told
behind_untagged told (codings.UidNext uid) = told
behind_untagged told (codings.UidValidity validity) = told
behind_untagged told (codings.PermanentFlags flags any) = Some (record { flags = flags; any = any })
behind_untagged told (codings.HighestModSeq modseq) = told
behind_untagged told codings.NoModSeq = told
behind_untagged told codings.UidNotSticky = told
behind_untagged told (codings.AppendUid validity uid) = told
behind_untagged told (codings.CopyUid validity source target) = told
behind_untagged told (codings.Modified uids) = told
behind_untagged told codings.Closed = None
behind_untagged told codings.Other = told

-- what counts behind a response in front of the completion
abbrev pub behind : Option Permits → Response → Option Permits
behind told (responses.Done tag ending code) = told
behind told (responses.Untagged ending code) = behind_untagged told code
behind told responses.Bye = told
behind told (responses.Preauth code) = told
behind told responses.Go = told
behind told (responses.Capability words) = told
behind told (responses.Enabled words) = told
behind told (responses.Exists count) = told
behind told (responses.Fetch fetched) = told
behind told (responses.Vanished earlier uids) = told
behind told (responses.Found uids) = told
behind told responses.Other = told

-- behind several, one after the other
abbrev pub behind_all : Option Permits → List Response → Option Permits
behind_all told [] = told
behind_all told (r ∷ rs) = behind_all (behind told r) rs

-- What counts behind a whole reply, of which the completion's code is the last.
abbrev pub permitted : Option Permits → Replies → Option Permits
permitted told r = behind_code (behind_all told r.untagged) r.code

-- The flag can be changed for good: it is told so, or it is a keyword and new ones can be made. Where nothing was told of it,
-- any flag can.
abbrev pub keeps : Option Permits → List ℕ → Bool
keeps None key = true
keeps (Some permits) key = has permits.flags key || permits.any && is_keyword key
