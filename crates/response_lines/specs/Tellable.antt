-- The responses that this server tells (RFC 9051, section 7), each of which it can spell.
use Rattle.std.specs.Prelude.{◌≡◌, ◌≢◌, ◌<◌, ◌^◌, ℕ, IsTrue, List, [], length, Option, Some, None}
use Rattle.std.specs.List.{AllByRecursion, list_all}
use Rattle.flag_set.specs.Flag.{is_atom_byte}
use Rattle.flag_set.specs.FlagSet.{IsFlagSet}
use Rattle.imap_model.specs.Held.{IsModSeq, IsNonzero32}
use Rattle.imap_model.specs.ToldRows.{told_flags}
use Rattle.imap_model.specs.TagText.{IsCommandTag}
use Rattle.imap_model.specs.declared.code.Code.{Code}
use Rattle.imap_model.specs.declared.code.Code.TheVariants as codings
use Rattle.imap_model.specs.declared.response.Response.{Response}
use Rattle.imap_model.specs.declared.response.Response.TheVariants as responses
use Rattle.mail_base.specs.declared.tag.Tag.{Tag}
use Rattle.mail_base.specs.declared.tag.Tag.TheVariants as tags

-- an atom (RFC 9051, section 9)
abbrev pub IsAtomic : List ℕ → Type 0
IsAtomic word = (word ≢ []) × IsTrue (list_all is_atom_byte word)

-- `\Recent` isn't among the flags: a client doesn't keep it
abbrev pub LacksRecent : List (List ℕ) → Type 0
LacksRecent flags = told_flags flags ≡ flags

-- a code that can be spelled: no code lists nothing
abbrev pub IsTellableCode : Code → Type 0
IsTellableCode codings.None = Unit {0}
IsTellableCode (codings.Capability words) = (words ≢ []) × AllByRecursion IsAtomic words
IsTellableCode (codings.UidNext uid) = Unit {0}
IsTellableCode (codings.UidValidity validity) = Unit {0}
IsTellableCode (codings.PermanentFlags flags any) = LacksRecent flags
IsTellableCode (codings.HighestModSeq modseq) = Unit {0}
IsTellableCode codings.NoModSeq = Unit {0}
IsTellableCode codings.UidNotSticky = Unit {0}
IsTellableCode (codings.AppendUid validity uid) = Unit {0}
IsTellableCode (codings.CopyUid validity source target) = (source ≢ []) × (target ≢ [])
IsTellableCode (codings.Modified uids) = uids ≢ []
IsTellableCode codings.Closed = Unit {0}
IsTellableCode codings.Other = Unit {0}

-- what is told of a message: its UID, flags and mod-sequence, or its UID and its Message-ID fields, or its UID and its whole text
abbrev pub IsTellableRow : Option ℕ → Option (List (List ℕ)) → Option ℕ → Option (List ℕ) → Option (List ℕ) → Type 0
IsTellableRow (Some uid) (Some flags) (Some modseq) None None = LacksRecent flags
IsTellableRow (Some uid) None None (Some ids) None = Unit {0}
IsTellableRow (Some uid) None None None (Some text) = Unit {0}
IsTellableRow uid flags modseq ids text = ⊥

-- the numbers and flags of it are those that a program can hold
abbrev pub RowFits : Option ℕ → Option (List (List ℕ)) → Option ℕ → Option (List ℕ) → Option (List ℕ) → Type 0
RowFits (Some uid) (Some flags) (Some modseq) None None = IsNonzero32 uid × IsFlagSet flags × IsModSeq modseq
RowFits (Some uid) None None (Some ids) None = IsNonzero32 uid × (length ids < 2 ^ 64)
RowFits (Some uid) None None None (Some text) = IsNonzero32 uid × (length text < 2 ^ 64)
RowFits uid flags modseq ids text = ⊥

-- the numbers of a tag are those that a program can hold
abbrev pub TagFits : Tag → Type 0
TagFits (tags.Play number) = number < 2 ^ 32
TagFits (tags.Again id turn) = (id < 2 ^ 32) × (turn < 2 ^ 8)
TagFits (tags.Count number) = number < 2 ^ 32
TagFits tags.Strange = Unit {0}

-- a response that can be spelled, and is told by this server
abbrev pub IsTellable : Response → Type 0
IsTellable (responses.Done tag ending code) = IsCommandTag tag × IsTellableCode code
IsTellable (responses.Untagged ending code) = IsTellableCode code
IsTellable responses.Bye = Unit {0}
IsTellable (responses.Preauth code) = IsTellableCode code
IsTellable responses.Go = Unit {0}
IsTellable (responses.Capability words) = (words ≢ []) × AllByRecursion IsAtomic words
IsTellable (responses.Enabled words) = AllByRecursion IsAtomic words
IsTellable (responses.Exists count) = Unit {0}
IsTellable (responses.Fetch f) = IsTellableRow f.uid f.flags f.modseq f.ids f.text
IsTellable (responses.Vanished earlier uids) = uids ≢ []
IsTellable (responses.Found uids) = Unit {0}
IsTellable responses.Other = Unit {0}

-- each of the responses is one
abbrev pub AreTellable : List Response → Type 0
AreTellable told = AllByRecursion IsTellable told
