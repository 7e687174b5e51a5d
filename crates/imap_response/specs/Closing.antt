-- One pass over a text that looks for the first `]` outside quoted strings (RFC 9051, section 9, resp-text and quoted).
use Rattle.std.specs.Prelude.{ℕ, zero, Bool, true, false, ◌&&◌, ◌==◌, not, List, Option, Some, None, if◌then◌else◌}
use Rattle.std.specs.Option.{option_or}
use Rattle.imap_tokens.specs.Scan.{quoted_from}
use Rattle.imap_tokens.specs.Tokens.{is_escaped, is_forbidden}
use Rattle.imap_response.specs.ReadTextParts.{closing_from}

-- the first right bracket of a string that may fail
abbrev pub first_inside : Option ℕ → ℕ → ℕ → Option ℕ
first_inside inside byte at = option_or inside (if byte == 93 then Some at else None)

-- the byte ends a quoted string that began
abbrev pub ends : Bool → Bool → ℕ → Bool
ends quoted escaped byte = quoted && not escaped && byte == 34

-- a quoted string that began goes on with the byte
abbrev pub goes_on : Bool → Bool → ℕ → Bool
goes_on false escaped byte = false
goes_on true true byte = is_escaped byte
goes_on true false byte = not (byte == 34) && not (is_forbidden byte)

-- the byte is a backslash that stands before another byte
abbrev pub escapes : Bool → ℕ → Bool
escapes escaped byte = not escaped && byte == 92

-- what is found behind so many bytes, if a string that began before goes on for as many bytes, or fails
abbrev pub behind_string : Option ℕ → Option ℕ → ℕ → List ℕ → Option ℕ
behind_string (Some size) inside at text = closing_from size at text
behind_string None inside at text = option_or inside (closing_from zero at text)

-- the same where no string began
abbrev pub scanned : Bool → Bool → Option ℕ → ℕ → List ℕ → Option ℕ
scanned true escaped inside at text = behind_string (quoted_from escaped 0 text) inside at text
scanned false escaped inside at text = behind_string None inside at text
