-- What any reply may tell beside what its command asks for, all of it true at one moment (RFC 9051, sections 5.2, 7 and 7.1;
-- RFC 7162, sections 3.1.2 and 3.2.10).
use Rattle.std.specs.Prelude.{◌≡◌, ◌⊎◌, ℕ, List, Option, Some, None, length, Contains}
use Rattle.std.specs.List.{AllByRecursion}
use Rattle.uid_sets.specs.UidSet.{Member}
use Rattle.uid_sets.specs.declared.uid.UidRange.{UidRange}
use Rattle.imap_model.specs.Lookups.{box_at, message_at}
use Rattle.imap_model.specs.ToldRows.{row_of}
use Rattle.imap_model.specs.declared.code.Code.{Code}
use Rattle.imap_model.specs.declared.code.Code.TheVariants as codings
use Rattle.imap_model.specs.declared.ending.Ending.TheVariants as endings
use Rattle.imap_model.specs.declared.fetched.Fetched.{Fetched}
use Rattle.imap_model.specs.declared.response.Response.{Response}
use Rattle.imap_model.specs.declared.response.Response.TheVariants as responses
use Rattle.imap_model.specs.declared.server.Message.{Message}
use Rattle.imap_model.specs.declared.server.Mailbox.{Mailbox}

-- the mailbox that is selected, if one is
abbrev pub selected_box : Option (List ℕ) → List Mailbox → Option Mailbox
selected_box None boxes = None
selected_box (Some name) boxes = box_at name boxes

-- the row of a message that is there
abbrev pub IsRow : Mailbox → Fetched → Type 0
IsRow b fetched = (uid : ℕ) × (m : Message) × (message_at uid b.messages ≡ Some m) × (fetched ≡ row_of m)

-- no message has one of these UIDs
abbrev pub AreAbsent : Mailbox → List UidRange → Type 0
AreAbsent b uids = (uid : ℕ) → Member uids uid → message_at uid b.messages ≡ None

-- A code that may be told of the selected mailbox, or where none is. What a server offers, and which flags can be changed
-- for good, is as it says.
abbrev pub MayCode : Option Mailbox → Code → Type 0
MayCode selected codings.None = Unit {0}
MayCode selected (codings.Capability words) = Unit {0}
MayCode selected (codings.PermanentFlags flags any) = Unit {0}
MayCode selected codings.Other = Unit {0}
MayCode (Some b) (codings.HighestModSeq modseq) = modseq ≡ b.highest
MayCode None (codings.HighestModSeq modseq) = ⊥
MayCode selected (codings.UidNext uid) = ⊥
MayCode selected (codings.UidValidity validity) = ⊥
MayCode selected codings.NoModSeq = ⊥
MayCode selected codings.UidNotSticky = ⊥
MayCode selected (codings.AppendUid validity uid) = ⊥
MayCode selected (codings.CopyUid validity source target) = ⊥
MayCode selected (codings.Modified uids) = ⊥
MayCode selected codings.Closed = ⊥

-- a response that may be told; a server may say BYE at any time (RFC 9051, section 7.1.5)
abbrev pub MaySay : Option Mailbox → Response → Type 0
MaySay selected (responses.Untagged ending code) = MayCode selected code
MaySay selected (responses.Capability words) = Unit {0}
MaySay selected responses.Other = Unit {0}
MaySay selected responses.Bye = Unit {0}
MaySay (Some b) (responses.Exists count) = count ≡ length b.messages
MaySay (Some b) (responses.Fetch fetched) = IsRow b fetched
MaySay (Some b) (responses.Vanished earlier uids) = AreAbsent b uids
MaySay None (responses.Exists count) = ⊥
MaySay None (responses.Fetch fetched) = ⊥
MaySay None (responses.Vanished earlier uids) = ⊥
MaySay selected (responses.Done tag ending code) = ⊥
MaySay selected (responses.Preauth code) = ⊥
MaySay selected responses.Go = ⊥
MaySay selected (responses.Enabled words) = ⊥
MaySay selected (responses.Found uids) = ⊥

-- each of the responses is such a one
abbrev pub Remarks : Option Mailbox → List Response → Type 0
Remarks selected told = AllByRecursion (MaySay selected) told

-- the code is told, in an untagged OK or with the completion
abbrev pub CodeTold : List Response → Code → Code → Type 0
CodeTold told last code = Contains told (responses.Untagged endings.Ok code) ⊎ (last ≡ code)

-- the row of the message is told
abbrev pub RowTold : List Response → Message → Type 0
RowTold told m = Contains told (responses.Fetch (row_of m))
