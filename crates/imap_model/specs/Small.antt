-- Responses whose flag sets are of a size that this client takes (this client's profile).
use Rattle.std.specs.Prelude.{ℕ, ◌≤◌, List, length, Option, Some, None}
use Rattle.flag_set.specs.declared.flag_fault.TheConstants.{MAX_FLAGS}
use Rattle.imap_model.specs.declared.code.Code.{Code}
use Rattle.imap_model.specs.declared.code.Code.TheVariants as codings
use Rattle.imap_model.specs.declared.response.Response.{Response}
use Rattle.imap_model.specs.declared.response.Response.TheVariants as responses

-- at most 1,024 keys
abbrev pub AreFew : List (List ℕ) → Type 0
AreFew keys = length keys ≤ MAX_FLAGS

abbrev pub AreFewIfTold : Option (List (List ℕ)) → Type 0
AreFewIfTold None = Unit {0}
AreFewIfTold (Some keys) = AreFew keys

abbrev pub IsSmallCode : Code → Type 0
IsSmallCode codings.None = Unit {0}
IsSmallCode (codings.Capability words) = Unit {0}
IsSmallCode (codings.UidNext uid) = Unit {0}
IsSmallCode (codings.UidValidity validity) = Unit {0}
IsSmallCode (codings.PermanentFlags flags any) = AreFew flags
IsSmallCode (codings.HighestModSeq modseq) = Unit {0}
IsSmallCode codings.NoModSeq = Unit {0}
IsSmallCode codings.UidNotSticky = Unit {0}
IsSmallCode (codings.AppendUid validity uid) = Unit {0}
IsSmallCode (codings.CopyUid validity source target) = Unit {0}
IsSmallCode (codings.Modified uids) = Unit {0}
IsSmallCode codings.Closed = Unit {0}
IsSmallCode codings.Other = Unit {0}

-- each flag set in the response has at most 1,024 keys
abbrev pub IsSmall : Response → Type 0
IsSmall (responses.Done tag ending code) = IsSmallCode code
IsSmall (responses.Untagged ending code) = IsSmallCode code
IsSmall responses.Bye = Unit {0}
IsSmall (responses.Preauth code) = IsSmallCode code
IsSmall responses.Go = Unit {0}
IsSmall (responses.Capability words) = Unit {0}
IsSmall (responses.Enabled words) = Unit {0}
IsSmall (responses.Exists count) = Unit {0}
IsSmall (responses.Fetch fetched) = AreFewIfTold fetched.flags
IsSmall (responses.Vanished earlier uids) = Unit {0}
IsSmall (responses.Found uids) = Unit {0}
IsSmall responses.Other = Unit {0}
