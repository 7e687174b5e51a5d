-- Header fields (RFC 5322, section 2.2).
use Rattle.std.specs.Prelude.{ℕ, ◌+◌, ◌==◌, Bool, List, Option, Some, None, take, drop, if◌then◌else◌}
use Rattle.std.specs.List.{filter_map, position}
use Rattle.mail_header.specs.Folding.{whole_header}
use Rattle.mail_header.specs.declared.field.Field.{Field}

-- a field's name and its body
pub record FieldText : Type 0 where
  pub name : List ℕ
  pub body : List ℕ

-- a colon
abbrev pub is_colon : ℕ → Bool
is_colon byte = byte == 58

-- the field whose colon stands there, which isn't the first byte
abbrev pub parted_at : List ℕ → Option ℕ → Option FieldText
parted_at line None = None
parted_at line (Some at) = if at == 0 then None else Some (record { name = take at line; body = drop (at + 1) line })

-- the field that a line is, where it has a colon with something before it
abbrev pub field_of : List ℕ → Option FieldText
field_of line = parted_at line (position is_colon line)

-- the fields of a text's header
abbrev pub fields_of : List ℕ → List FieldText
fields_of text = filter_map field_of (whole_header text)

-- the bytes of a field
abbrev pub field_text : Field → FieldText
field_text field = record { name = field.name.now; body = field.body.now }
