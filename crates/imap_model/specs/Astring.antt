-- A text as an argument of a command (RFC 9051, section 9, astring, quoted and literal).
use Rattle.std.specs.Prelude.{ℕ, Bool, not, ◌&&◌, ◌||◌, ◌==◌, nat_le, nat_lt, List, [], ◌∷◌, ◌++◌, length, if◌then◌else◌, codes, decimal}
use Rattle.std.specs.List.{flat_map, list_all}
use Rattle.std.specs.Str.{str_eq_ignore_ascii_case}
use Rattle.mail_base.specs.Frames.{header}
use Rattle.imap_model.specs.CommandParts.{line, wait, ◌⌢◌}
use Rattle.imap_model.specs.Tagged.{is_astring_byte}

-- the text can stand as it is; NIL in any case would be no text
abbrev pub is_bare : List ℕ → Bool
is_bare text = nat_lt 0 (length text) && not (str_eq_ignore_ascii_case text (codes "NIL")) && list_all is_astring_byte text

-- a quoted string may hold the byte: it is one of ASCII, and neither NUL nor the end of a line
abbrev pub is_quotable : ℕ → Bool
is_quotable byte = nat_le 1 byte && nat_le byte 127 && not (byte == 13) && not (byte == 10)

-- the byte in a quoted string, where `"` and `\` have a `\` before them
abbrev pub escaped : ℕ → List ℕ
escaped byte = if byte == 34 || byte == 92 then 92 ∷ byte ∷ [] else byte ∷ []

-- the text in quotes
abbrev pub quoted : List ℕ → List ℕ
quoted bytes = 34 ∷ (flat_map escaped bytes ++ 34 ∷ [])

-- the size of a literal, behind which the client waits, and its octets
abbrev pub literal : List ℕ → List (List ℕ)
literal octets = line (header (decimal (length octets))) ⌢ wait ⌢ line octets

-- the text as it is, else in quotes, else as a literal: the first of these that can carry it
abbrev pub astring_parts : List ℕ → List (List ℕ)
astring_parts bytes =
    if is_bare bytes then line bytes else
    if list_all is_quotable bytes then line (quoted bytes) else
    literal bytes
