-- What is told as a mailbox is selected (RFC 9051, sections 6.3.2 and 7.1; RFC 7162, sections 3.1.2 and 3.2.5).
use Rattle.std.specs.Prelude.{◌≡◌, ◌⊎◌, ℕ, ◌<◌, true, List, [], ◌∷◌, ◌++◌, Option, Some, None, length, Contains}
use Rattle.std.specs.List.{AllByRecursion}
use Rattle.uid_sets.specs.UidSet.{Member}
use Rattle.uid_sets.specs.declared.uid.UidRange.{UidRange}
use Rattle.imap_model.specs.Lookups.{message_at, gone_at}
use Rattle.imap_model.specs.Remarks.{MayCode, MaySay, Remarks, CodeTold, RowTold}
use Rattle.imap_model.specs.declared.code.Code.{Code}
use Rattle.imap_model.specs.declared.code.Code.TheVariants as codings
use Rattle.imap_model.specs.declared.ending.Ending.TheVariants as endings
use Rattle.imap_model.specs.declared.mark.Mark.{Mark}
use Rattle.imap_model.specs.declared.response.Response.{Response}
use Rattle.imap_model.specs.declared.response.Response.TheVariants as responses
use Rattle.imap_model.specs.declared.server.Message.{Message}
use Rattle.imap_model.specs.declared.server.Mailbox.{Mailbox}

-- a code of the mailbox's state
abbrev pub SelectCode : Mailbox → Code → Type 0
SelectCode b (codings.UidValidity validity) = validity ≡ b.validity
SelectCode b (codings.UidNext uid) = uid ≡ b.uidnext
SelectCode b code = MayCode (Some b) code

-- a response that may be told of it
abbrev pub SelectSays : Mailbox → Response → Type 0
SelectSays b (responses.Untagged ending code) = SelectCode b code
SelectSays b response = MaySay (Some b) response

-- the UID is among those that are told to be gone
abbrev pub GoneTold : List Response → ℕ → Type 0
GoneTold told uid = (uids : List UidRange) × Contains told (responses.Vanished true uids) × Member uids uid

-- Of all that has a mod-sequence above the mark: each message's row, and each UID that went.
pub record ToldSince (modseq : ℕ) (b : Mailbox) (told : List Response) : Type 0 where
  pub rows : (uid : ℕ) (m : Message) → message_at uid b.messages ≡ Some m → modseq < m.modseq → RowTold told m
  pub gone : (uid went : ℕ) → gone_at uid b.gone ≡ Some went → modseq < went → GoneTold told uid

-- a mark of another UIDVALIDITY counts as none
abbrev pub MarkTells : Option Mark → Mailbox → List Response → Type 0
MarkTells None b told = Unit {0}
MarkTells (Some mark) b told = mark.validity ≡ b.validity → ToldSince mark.modseq b told

-- CLOSED parts what is told of the mailbox that was selected from what is told of the new one. Without it all is of the
-- new one.
abbrev pub Parted : List Response → List Response → List Response → Type 0
Parted untagged before told = (untagged ≡ before ++ responses.Untagged endings.Ok codings.Closed ∷ told) ⊎ ((before ≡ []) × (untagged ≡ told))

-- the reply to a SELECT of this mailbox, with what it tells behind CLOSED
pub record SelectTells (old : Option Mailbox) (since : Option Mark) (b : Mailbox) (untagged : List Response) (code : Code) : Type 0 where
  pub before : List Response
  pub told : List Response
  pub parted : Parted untagged before told
  pub of_old : Remarks old before
  pub of_new : AllByRecursion (SelectSays b) told
  pub code_of_new : SelectCode b code
  pub exists : Contains told (responses.Exists (length b.messages))
  pub validity : CodeTold told code (codings.UidValidity b.validity)
  pub uidnext : CodeTold told code (codings.UidNext b.uidnext)
  pub highest : CodeTold told code (codings.HighestModSeq b.highest)
  pub since_mark : MarkTells since b told
