-- What the front of a command's text can be: the parts up to one behind which the client waits (RFC 9051, sections 4.3, 6.2.2 and 6.2.3).
use Rattle.std.specs.Prelude.{◌≡◌, ℕ, ◌^◌, ◌<◌, Option, Some, None, List, ◌++◌, Contains, decimal}
use Rattle.std.specs.Str.{IsUtf8}
use Rattle.flag_set.specs.FlagSet.{IsFlagSet}
use Rattle.flag_set.specs.FlagText.{list_text}
use Rattle.mail_base.specs.BoxName.{IsBoxName}
use Rattle.mail_base.specs.Frames.{header}
use Rattle.mail_base.specs.declared.tag.Tag.{Tag}
use Rattle.imap_model.specs.Astring.{astring_parts}
use Rattle.imap_model.specs.CommandParts.{line, words, number, crlf, ◌⌢◌}
use Rattle.imap_model.specs.Held.{IsNonzero32}
use Rattle.imap_model.specs.OneText.{IsText, IsKeptTag}
use Rattle.imap_model.specs.TagText.{tag_parts, IsCommandTag}

-- What is awaited behind the front: the response of AUTHENTICATE PLAIN, or so many octets: the user's name of a LOGIN, or behind that
-- name the password, the message id of a SEARCH, or the message of an APPEND.
pub data Awaited : Type 0 where
  Response : Awaited
  User : (octets : ℕ) → Awaited
  Password : (user : List ℕ) (octets : ℕ) → Awaited
  Id : (from octets : ℕ) → Awaited
  Message : (to : List ℕ) (flags : List (List ℕ)) (octets : ℕ) → Awaited

-- the header of a literal, behind which the client waits
abbrev pub announced : ℕ → List (List ℕ)
announced octets = line (header (decimal octets) ++ crlf)

-- what stands between the tag with its space and the end of the front
abbrev pub begun_parts : Awaited → List (List ℕ)
begun_parts Response = words "AUTHENTICATE PLAIN" ⌢ line crlf
begun_parts (User octets) = words "LOGIN " ⌢ announced octets
begun_parts (Password user octets) = words "LOGIN " ⌢ astring_parts user ⌢ words " " ⌢ announced octets
begun_parts (Id from octets) = words "UID SEARCH UID " ⌢ number from ⌢ words ":* HEADER Message-ID " ⌢ announced octets
begun_parts (Message to flags octets) = words "APPEND " ⌢ astring_parts to ⌢ words " (" ⌢ line (list_text flags) ⌢ words ") " ⌢ announced octets

-- the front under its tag
abbrev pub front_parts : Tag → Awaited → List (List ℕ)
front_parts tag awaited = tag_parts tag ⌢ words " " ⌢ begun_parts awaited

-- Memory can hold so many octets, and there is one: a text of none is quoted.
pub record IsCount (octets : ℕ) : Type 0 where
  pub some : 0 < octets
  pub fits : octets < 2 ^ 64

-- a user's name that a program can hold
pub record IsUser (user : List ℕ) : Type 0 where
  pub text : IsText user
  pub utf8 : IsUtf8 user
  pub plain : ¬ (Contains user 0)

-- a program can hold what stands in the front; only a message may be one of no octets
abbrev pub IsHeldFront : Awaited → Type 0
IsHeldFront Response = Unit {0}
IsHeldFront (User octets) = IsCount octets
IsHeldFront (Password user octets) = IsUser user × IsCount octets
IsHeldFront (Id from octets) = IsNonzero32 from × IsCount octets
IsHeldFront (Message to flags octets) = IsBoxName to × IsFlagSet flags × (octets < 2 ^ 64)

-- the mailbox that an APPEND names
abbrev pub append_at : Awaited → Option (List ℕ)
append_at Response = None
append_at (User octets) = None
append_at (Password user octets) = None
append_at (Id from octets) = None
append_at (Message to flags octets) = Some to

-- the parts are such a front under the tag
pub record IsFrontOf (tag : Tag) (awaited : Awaited) (parts : List (List ℕ)) : Type 0 where
  pub tagged : IsCommandTag tag
  pub tag_fits : IsKeptTag tag
  pub held : IsHeldFront awaited
  pub text : front_parts tag awaited ≡ parts
