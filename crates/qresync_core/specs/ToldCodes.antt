-- The numbers that the codes of a reply to SELECT tell (RFC 9051, sections 6.3.2 and 7.1; RFC 7162, sections 3.1.2.1 and 3.1.2.2).
use Rattle.std.specs.Prelude.{ℕ, Bool, true, false, List, [], ◌∷◌, ◌++◌, Option, Some, None, Result, Ok, Err, if◌then◌else◌}
use Rattle.std.specs.List.{list_any}
use Rattle.std.specs.Option.{option_or, option_to_list}
use Rattle.imap_model.specs.declared.code.Code.{Code}
use Rattle.imap_model.specs.declared.code.Code.TheVariants as codings
use Rattle.imap_model.specs.declared.item.Item.TheVariants as items
use Rattle.imap_model.specs.declared.replies.Replies.{Replies}
use Rattle.imap_model.specs.declared.response.Response.{Response}
use Rattle.imap_model.specs.declared.response.Response.TheVariants as responses
use Rattle.qresync_core.specs.Behind.{behind_closed}
use Rattle.qresync_core.specs.declared.codes.Codes.{Codes}
use Rattle.qresync_core.specs.declared.fault.CodeFault.{CodeFault}
use Rattle.qresync_core.specs.declared.fault.CodeFault.TheVariants as faults

-- the code of an untagged OK, NO or BAD
abbrev pub code_of : Response → Option Code
code_of (responses.Done tag ending code) = None
code_of (responses.Untagged ending code) = Some code
code_of responses.Bye = None
code_of (responses.Preauth code) = None
code_of responses.Go = None
code_of (responses.Capability words) = None
code_of (responses.Enabled words) = None
code_of (responses.Exists count) = None
code_of (responses.Fetch fetched) = None
code_of (responses.Vanished earlier uids) = None
code_of (responses.Found uids) = None
code_of responses.Other = None

-- the codes in the order in which they are told, of which the completion's is the last
abbrev pub codes_in : List Response → Code → List Code
codes_in [] last = last ∷ []
codes_in (response ∷ told) last = option_to_list (code_of response) ++ codes_in told last

abbrev pub is_no_modseq : Code → Bool
is_no_modseq codings.None = false
is_no_modseq (codings.Capability words) = false
is_no_modseq (codings.UidNext uid) = false
is_no_modseq (codings.UidValidity validity) = false
is_no_modseq (codings.PermanentFlags flags any) = false
is_no_modseq (codings.HighestModSeq modseq) = false
is_no_modseq codings.NoModSeq = true
is_no_modseq codings.UidNotSticky = false
is_no_modseq (codings.AppendUid validity uid) = false
is_no_modseq (codings.CopyUid validity source target) = false
is_no_modseq (codings.Modified uids) = false
is_no_modseq codings.Closed = false
is_no_modseq codings.Other = false

abbrev pub is_not_sticky : Code → Bool
is_not_sticky codings.None = false
is_not_sticky (codings.Capability words) = false
is_not_sticky (codings.UidNext uid) = false
is_not_sticky (codings.UidValidity validity) = false
is_not_sticky (codings.PermanentFlags flags any) = false
is_not_sticky (codings.HighestModSeq modseq) = false
is_not_sticky codings.NoModSeq = false
is_not_sticky codings.UidNotSticky = true
is_not_sticky (codings.AppendUid validity uid) = false
is_not_sticky (codings.CopyUid validity source target) = false
is_not_sticky (codings.Modified uids) = false
is_not_sticky codings.Closed = false
is_not_sticky codings.Other = false

-- what a code tells of UIDVALIDITY, of UIDNEXT and of HIGHESTMODSEQ
abbrev pub validity_in : Code → Option ℕ
validity_in codings.None = None
validity_in (codings.Capability words) = None
validity_in (codings.UidNext uid) = None
validity_in (codings.UidValidity validity) = Some validity
validity_in (codings.PermanentFlags flags any) = None
validity_in (codings.HighestModSeq modseq) = None
validity_in codings.NoModSeq = None
validity_in codings.UidNotSticky = None
validity_in (codings.AppendUid validity uid) = None
validity_in (codings.CopyUid validity source target) = None
validity_in (codings.Modified uids) = None
validity_in codings.Closed = None
validity_in codings.Other = None

abbrev pub uidnext_in : Code → Option ℕ
uidnext_in codings.None = None
uidnext_in (codings.Capability words) = None
uidnext_in (codings.UidNext uid) = Some uid
uidnext_in (codings.UidValidity validity) = None
uidnext_in (codings.PermanentFlags flags any) = None
uidnext_in (codings.HighestModSeq modseq) = None
uidnext_in codings.NoModSeq = None
uidnext_in codings.UidNotSticky = None
uidnext_in (codings.AppendUid validity uid) = None
uidnext_in (codings.CopyUid validity source target) = None
uidnext_in (codings.Modified uids) = None
uidnext_in codings.Closed = None
uidnext_in codings.Other = None

abbrev pub highest_in : Code → Option ℕ
highest_in codings.None = None
highest_in (codings.Capability words) = None
highest_in (codings.UidNext uid) = None
highest_in (codings.UidValidity validity) = None
highest_in (codings.PermanentFlags flags any) = None
highest_in (codings.HighestModSeq modseq) = Some modseq
highest_in codings.NoModSeq = None
highest_in codings.UidNotSticky = None
highest_in (codings.AppendUid validity uid) = None
highest_in (codings.CopyUid validity source target) = None
highest_in (codings.Modified uids) = None
highest_in codings.Closed = None
highest_in codings.Other = None

-- of several values the one that is told last
abbrev pub last_told : (Code → Option ℕ) → List Code → Option ℕ
last_told pick [] = None
last_told pick (code ∷ codes) = option_or (last_told pick codes) (pick code)

-- the three numbers, or the first of them that isn't told
abbrev pub all_three : Option ℕ → Option ℕ → Option ℕ → Result Codes CodeFault
all_three None uidnext highest = Err (faults.NoCode items.UidValidity)
all_three (Some validity) None highest = Err (faults.NoCode items.UidNext)
all_three (Some validity) (Some uidnext) None = Err (faults.NoCode items.HighestModSeq)
all_three (Some validity) (Some uidnext) (Some highest) = Ok (record { validity = validity; uidnext = uidnext; highest = highest })

-- A mailbox that has no mod-sequences, or doesn't keep its UIDs, is refused, and one of which a number isn't told.
abbrev pub numbers_of : List Code → Result Codes CodeFault
numbers_of codes =
    if list_any is_no_modseq codes then Err faults.NoModSeq else
    (if list_any is_not_sticky codes then Err faults.NotSticky else
    all_three (last_told validity_in codes) (last_told uidnext_in codes) (last_told highest_in codes))

-- what a reply to SELECT tells of its mailbox in codes
abbrev pub told_codes : Replies → Result Codes CodeFault
told_codes selected = numbers_of (codes_in (behind_closed selected.untagged) selected.code)
