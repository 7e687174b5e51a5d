-- What is told of a message (RFC 9051, sections 6.4.5 and 7.5.2; RFC 7162, section 3.1.4.2).
use Rattle.std.specs.Prelude.{◌≡◌, ◌⊎◌, ℕ, Bool, false, List, [], ◌∷◌, ◌++◌, Option, Some, None, if◌then◌else◌}
use Rattle.flag_set.specs.FlagKey.{recent}
use Rattle.flag_set.specs.FlagSet.{minus}
use Rattle.mail_header.specs.Field.{FieldText, field_of}
use Rattle.mail_header.specs.Folding.{whole_header}
use Rattle.mail_header.specs.Header.{crlf}
use Rattle.mail_header.specs.Identifier.{is_id_name}
use Rattle.imap_model.specs.Unfetched.{nothing_fetched}
use Rattle.imap_model.specs.declared.fetched.Fetched.{Fetched}
use Rattle.imap_model.specs.declared.server.Message.{Message}

-- The flags that a client keeps of those that it is told: `\Recent` belongs to a session and to no message (RFC 3501,
-- section 2.3.2; this client's profile).
abbrev pub told_flags : List (List ℕ) → List (List ℕ)
told_flags keys = minus keys (recent ∷ [])

-- a row: a message's UID, FLAGS and MODSEQ
abbrev pub row_of : Message → Fetched
row_of m = record nothing_fetched { uid = Some m.uid; flags = Some (told_flags m.flags); modseq = Some m.modseq }

-- the line is a field named Message-ID
abbrev pub is_id_field : Option FieldText → Bool
is_id_field None = false
is_id_field (Some field) = is_id_name field.name

-- those of a header's lines that are fields named Message-ID, as they stand, and an empty line behind them
abbrev pub id_lines : List (List ℕ) → List ℕ
id_lines [] = crlf
id_lines (line ∷ lines) = if is_id_field (field_of line) then line ++ crlf ++ id_lines lines else id_lines lines

-- BODY[HEADER.FIELDS (Message-ID)] of a text
abbrev pub id_fields : List ℕ → List ℕ
id_fields text = id_lines (whole_header text)

-- a message's UID and its Message-ID fields
abbrev pub ids_of : Message → Fetched
ids_of m = record nothing_fetched { uid = Some m.uid; ids = Some (id_fields m.text) }

-- a message's UID and its whole text
abbrev pub text_of : Message → Fetched
text_of m = record nothing_fetched { uid = Some m.uid; text = Some m.text }

-- nothing, or this
abbrev pub NoneOr : {A : Type 0} → A → Option A → Type 0
NoneOr value told = (told ≡ None) ⊎ (told ≡ Some value)

-- A message's UID and its Message-ID fields. A server may tell its flags and its mod-sequence with them.
pub record TellsIds (m : Message) (fetched : Fetched) : Type 0 where
  pub flags : NoneOr (told_flags m.flags) fetched.flags
  pub modseq : NoneOr m.modseq fetched.modseq
  pub ids : fetched ≡ record (ids_of m) { flags = fetched.flags; modseq = fetched.modseq }

-- A message's UID and its whole text. A server may tell its flags and its mod-sequence with them.
pub record TellsText (m : Message) (fetched : Fetched) : Type 0 where
  pub flags : NoneOr (told_flags m.flags) fetched.flags
  pub modseq : NoneOr m.modseq fetched.modseq
  pub text : fetched ≡ record (text_of m) { flags = fetched.flags; modseq = fetched.modseq }
