-- The text of a command tells which command it is, and under which tag (RFC 9051, sections 2.2.1 and 6): so what a server carries out is what was written.
use Rattle.std.specs.Prelude.{◌≡◌, ℕ, ◌^◌, ◌<◌, Option, Some, None, List, length}
use Rattle.std.specs.List.{AllByRecursion}
use Rattle.flag_set.specs.FlagSet.{IsFlagSet}
use Rattle.mail_base.specs.Account.{Credentials, IsPlain}
use Rattle.mail_base.specs.BoxName.{IsBoxName}
use Rattle.mail_base.specs.declared.tag.Tag.{Tag}
use Rattle.mail_base.specs.declared.tag.Tag.TheVariants.{Play, Again, Count, Strange}
use Rattle.uid_sets.specs.UidSet.{IsCanonical}
use Rattle.imap_model.specs.CommandText.{IsWritable, parts_of}
use Rattle.imap_model.specs.declared.mark.Mark.{Mark}
use Rattle.imap_model.specs.declared.command.Command.{Command}
use Rattle.imap_model.specs.declared.command.Command.TheVariants as commands

-- a list of bytes that memory can hold
pub record IsText (bytes : List ℕ) : Type 0 where
  pub each : AllByRecursion (λ byte. byte < 256) bytes
  pub short : length bytes < 2 ^ 64

-- an account as its type keeps it
pub record IsAccount (account : Credentials) : Type 0 where
  pub plain : IsPlain account.user account.password
  pub user : IsText account.user
  pub password : IsText account.password

-- a mark as its type keeps it
abbrev pub IsMark : Option Mark → Type 0
IsMark None = Unit {0}
IsMark (Some mark) = (mark.validity < 2 ^ 32) × (mark.modseq < 2 ^ 63)

-- a command as its type keeps it
abbrev pub IsKept : Command → Type 0
IsKept commands.Capability = Unit {0}
IsKept (commands.Login account) = IsAccount account
IsKept (commands.Plain account) = IsAccount account
IsKept (commands.Enable rev2) = Unit {0}
IsKept (commands.Select name since) = IsBoxName name × IsMark since
IsKept commands.FetchAll = Unit {0}
IsKept (commands.FetchRow uid) = uid < 2 ^ 32
IsKept (commands.Search from id) = (from < 2 ^ 32) × IsText id
IsKept (commands.FetchIds uids) = IsCanonical uids
IsKept (commands.FetchText uid) = uid < 2 ^ 32
IsKept (commands.Store uid since add flags) = (uid < 2 ^ 32) × (since < 2 ^ 63) × IsFlagSet flags
IsKept (commands.Shift uid to) = (uid < 2 ^ 32) × IsBoxName to
IsKept (commands.Copy uid to) = (uid < 2 ^ 32) × IsBoxName to
IsKept (commands.Expunge uid) = uid < 2 ^ 32
IsKept (commands.Append to flags octets) = IsBoxName to × IsFlagSet flags × IsText octets
IsKept commands.Logout = Unit {0}

-- a tag as its type keeps it
abbrev pub IsKeptTag : Tag → Type 0
IsKeptTag (Play n) = n < 2 ^ 32
IsKeptTag (Again n t) = n < 2 ^ 32
IsKeptTag (Count n) = n < 2 ^ 32
IsKeptTag Strange = Unit {0}

-- a command that is written under a tag
pub record IsWritten (tag : Tag) (command : Command) : Type 0 where
  pub writable : IsWritable tag command
  pub kept_tag : IsKeptTag tag
  pub kept : IsKept command

-- two commands under their tags have one text only where they are the same
abbrev pub OneText : Type 0
OneText = (one other : Tag) (left right : Command) → IsWritten one left → IsWritten other right
    → parts_of one left ≡ parts_of other right → (one ≡ other) × (left ≡ right)
