-- What a flag is, and where a text fails to be one (RFC 9051, section 9, flag and ATOM-CHAR).
use Rattle.std.specs.Prelude.{ℕ, ◌+◌, ◌-◌, Bool, true, not, ◌&&◌, ◌||◌, ◌==◌, nat_le, nat_lt, List, [], ◌∷◌, length, Option, Some, None}
use Rattle.std.specs.Prelude.{is_some, unwrap_or, if◌then◌else◌, codes}
use Rattle.std.specs.List.{find, list_all, list_any, position}
use Rattle.std.specs.Option.{option_or}
use Rattle.std.specs.Str.{str_eq_ignore_ascii_case}
use Rattle.flag_set.specs.declared.flag_fault.TheConstants.{MAX_FLAG}
use Rattle.flag_set.specs.declared.flag_fault.FlagFault.{FlagFault}
use Rattle.flag_set.specs.declared.flag_fault.FlagFault.TheVariants.{TooLong, BadFlag}

-- the byte `\`, which begins the name of a system flag
abbrev pub backslash : ℕ
backslash = 92

-- the byte has a meaning of its own in a command, so no atom holds it; `]` is left out too, as this client's profile
abbrev pub is_special : ℕ → Bool
is_special byte = list_any (λ special. special == byte) (codes "(){%*\"\\]")

-- the byte may stand in an atom
abbrev pub is_atom_byte : ℕ → Bool
is_atom_byte byte = nat_le 33 byte && nat_le byte 126 && not (is_special byte)

-- what stands behind the backslash of a flag, or all of it where it has none
abbrev pub name_of : List ℕ → List ℕ
name_of [] = []
name_of (first ∷ rest) = if first == backslash then rest else first ∷ rest

-- the text is an optional backslash and one or more atom bytes
abbrev pub is_flag : List ℕ → Bool
is_flag text = nat_lt 0 (length (name_of text)) && list_all is_atom_byte (name_of text)

-- the place of the first byte that doesn't fit a flag, or the text's length
abbrev pub misfit : List ℕ → ℕ
misfit text = (length text - length (name_of text)) + unwrap_or (position (λ byte. not (is_atom_byte byte)) (name_of text)) (length (name_of text))

-- why a text is refused as a flag, if it is: its length comes first
abbrev pub refusal : List ℕ → Option FlagFault
refusal text =
    if nat_lt MAX_FLAG (length text) then Some (TooLong (length text)) else
    if is_flag text then None else Some (BadFlag (misfit text))

-- the flag is a keyword: it has no backslash
abbrev pub is_keyword : List ℕ → Bool
is_keyword [] = true
is_keyword (first ∷ rest) = not (first == backslash)

-- the system flags that a client may set, as they are written (RFC 9051, section 2.3.2)
abbrev pub system_flags : List (List ℕ)
system_flags = codes "\\Answered" ∷ codes "\\Flagged" ∷ codes "\\Deleted" ∷ codes "\\Seen" ∷ codes "\\Draft" ∷ []

-- the one of these that the text is in any case, if it is one
abbrev pub system_flag : List ℕ → Option (List ℕ)
system_flag text = find (λ flag. str_eq_ignore_ascii_case flag text) system_flags

-- the key as it is written: a system flag as the standard spells it, any other flag as its key
abbrev pub spelling : List ℕ → List ℕ
spelling key = unwrap_or (system_flag key) key

-- why a user's word is refused as a flag, if it is: behind the reasons for any text, that it names no flag that a client may set
abbrev pub asked_refusal : List ℕ → Option FlagFault
asked_refusal text = option_or (refusal text) (if is_keyword text || is_some (system_flag text) then None else Some (BadFlag 0))
