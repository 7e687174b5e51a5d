-- The key of a flag: flags are compared without ASCII case (RFC 9051, section 2.3.2).
use Rattle.std.specs.Prelude.{◌≡◌, ◌≤◌, IsTrue, List, ℕ, length, codes}
use Rattle.std.specs.Str.{str_to_ascii_lowercase}
use Rattle.flag_set.specs.declared.flag_fault.TheConstants.{MAX_FLAG}
use Rattle.flag_set.specs.Flag.{is_flag}

-- the key of a flag is its text in lower case
abbrev pub key_of : List ℕ → List ℕ
key_of text = str_to_ascii_lowercase text

-- the key of the flag that servers of IMAP4rev1 set, and no client (RFC 9051, section 2.3.2)
abbrev pub recent : List ℕ
recent = codes "\\recent"

-- the bytes are a flag in lower case that isn't too long
pub record IsKey (key : List ℕ) : Type 0 where
  pub flag : IsTrue (is_flag key)
  pub lower : key_of key ≡ key
  pub short : length key ≤ MAX_FLAG
