-- How words and bytes are written (docs/CASES.md, "Words").
use Rattle.std.specs.Prelude.{ℕ, ◌/◌, ◌%◌, ◌==◌, ◌&&◌, ◌||◌, ◌+◌, ◌-◌, nat_le, nat_lt, not, length, Bool, false, List, [], ◌∷◌, ◌++◌, codes, decimal, slice_index, Option, Some, None, if◌then◌else◌}
use Rattle.std.specs.List.{flat_map, list_all}

-- a byte that a bare word may have: from 33 to 126, and no quote
abbrev pub is_bare : ℕ → Bool
is_bare byte = nat_le 33 byte && (nat_le byte 126 && not (byte == 34))

-- a word that parts others: a semicolon, or an equals sign
abbrev pub is_parting : List ℕ → Bool
is_parting [] = false
is_parting (byte ∷ []) = (byte == 59) || (byte == 61)
is_parting (_ ∷ _ ∷ _) = false

-- a word that needs no quotes
abbrev pub is_bare_word : List ℕ → Bool
is_bare_word word = nat_lt 0 (length word) && (list_all is_bare word && not (is_parting word))

-- at least 100 bytes, all of them the same
abbrev pub is_long_run : List ℕ → Bool
is_long_run [] = false
is_long_run (first ∷ rest) = nat_le 99 (length rest) && list_all (λ byte. byte == first) rest

-- the value of a digit
abbrev pub digit_value : ℕ → Option ℕ
digit_value digit =
    if nat_le 48 digit && nat_le digit 57 then Some (digit - 48) else
    if nat_le 97 digit && nat_le digit 102 then Some (digit - 97 + 10) else
    None

-- a byte's two digits
abbrev pub hex_byte : ℕ → List ℕ
hex_byte byte = slice_index (codes "0123456789abcdef") (byte / 16) ∷ slice_index (codes "0123456789abcdef") (byte % 16) ∷ []

-- a byte between quotes
abbrev pub quoted_byte : ℕ → List ℕ
quoted_byte byte =
    if byte == 34 then codes "\\\"" else
    if byte == 92 then codes "\\\\" else
    if byte == 13 then codes "\\r" else
    if byte == 10 then codes "\\n" else
    if nat_le 32 byte && nat_le byte 126 then byte ∷ [] else
    codes "\\x" ++ hex_byte byte

-- a text in quotes
abbrev pub quoted : List ℕ → List ℕ
quoted text = 34 ∷ (flat_map quoted_byte text ++ 34 ∷ [])

-- a run of one byte: the byte in quotes, and how many there are
abbrev pub counted : List ℕ → List ℕ
counted [] = quoted []
counted (first ∷ rest) = quoted (first ∷ []) ++ 42 ∷ decimal (length (first ∷ rest))

-- a word as it is written
abbrev pub written : List ℕ → List ℕ
written word =
    if is_long_run word then counted word else
    if is_bare_word word then word else
    quoted word

-- bytes in hexadecimal
abbrev pub hex_text : List ℕ → List ℕ
hex_text [] = codes "-"
hex_text (first ∷ rest) = flat_map hex_byte (first ∷ rest)
