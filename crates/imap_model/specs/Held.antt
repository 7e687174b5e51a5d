-- What a program can hold of a command: the numbers, names and texts that IMAP allows (RFC 9051, section 9). A server is asked for no other.
use Rattle.std.specs.Prelude.{ℕ, ◌^◌, ◌<◌, Option, Some, None}
use Rattle.std.specs.Str.{IsUtf8}
use Rattle.flag_set.specs.FlagSet.{IsFlagSet}
use Rattle.mail_base.specs.Account.{Credentials}
use Rattle.mail_base.specs.BoxName.{IsBoxName}
use Rattle.mail_base.specs.declared.tag.Tag.{Tag}
use Rattle.uid_sets.specs.UidSet.{IsCanonical}
use Rattle.imap_model.specs.CommandText.{IsWritable}
use Rattle.imap_model.specs.OneText.{IsAccount, IsKeptTag, IsText}
use Rattle.imap_model.specs.declared.mark.Mark.{Mark}
use Rattle.imap_model.specs.declared.command.Command.{Command}
use Rattle.imap_model.specs.declared.command.Command.TheVariants as commands

-- nz-number, as UIDs and UIDVALIDITYs are
pub record IsNonzero32 (number : ℕ) : Type 0 where
  pub nonzero : 0 < number
  pub fits : number < 2 ^ 32

-- a mod-sequence (RFC 7162, section 3.1)
pub record IsModSeq (modseq : ℕ) : Type 0 where
  pub positive : 0 < modseq
  pub fits : modseq < 2 ^ 63

-- the user's name and password are texts of UTF-8
pub record IsHeldAccount (account : Credentials) : Type 0 where
  pub kept : IsAccount account
  pub user : IsUtf8 account.user
  pub password : IsUtf8 account.password

abbrev pub IsHeldMark : Option Mark → Type 0
IsHeldMark None = Unit {0}
IsHeldMark (Some mark) = IsNonzero32 mark.validity × IsModSeq mark.modseq

-- a program can hold the command
abbrev pub IsHeld : Command → Type 0
IsHeld commands.Capability = Unit {0}
IsHeld (commands.Login account) = IsHeldAccount account
IsHeld (commands.Plain account) = IsHeldAccount account
IsHeld (commands.Enable rev2) = Unit {0}
IsHeld (commands.Select name since) = IsBoxName name × IsHeldMark since
IsHeld commands.FetchAll = Unit {0}
IsHeld (commands.FetchRow uid) = IsNonzero32 uid
IsHeld (commands.Search from id) = IsNonzero32 from × IsText id
IsHeld (commands.FetchIds uids) = IsCanonical uids
IsHeld (commands.FetchText uid) = IsNonzero32 uid
IsHeld (commands.Store uid since add flags) = IsNonzero32 uid × IsModSeq since × IsFlagSet flags
IsHeld (commands.Shift uid to) = IsNonzero32 uid × IsBoxName to
IsHeld (commands.Copy uid to) = IsNonzero32 uid × IsBoxName to
IsHeld (commands.Expunge uid) = IsNonzero32 uid
IsHeld (commands.Append to flags octets) = IsBoxName to × IsFlagSet flags × IsText octets
IsHeld commands.Logout = Unit {0}

-- a command that a program sends under a tag
pub record IsSent (tag : Tag) (command : Command) : Type 0 where
  pub writable : IsWritable tag command
  pub tag_fits : IsKeptTag tag
  pub held : IsHeld command
