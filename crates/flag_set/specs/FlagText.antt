-- The text of a list of flags (RFC 9051, section 9, flag-list).
use Rattle.std.specs.Prelude.{ℕ, List, map}
use Rattle.std.specs.List.{join_with_byte}
use Rattle.flag_set.specs.Flag.{spelling}

-- the flags as they are written, with one space between
abbrev pub list_text : List (List ℕ) → List ℕ
list_text keys = join_with_byte 32 (map spelling keys)
