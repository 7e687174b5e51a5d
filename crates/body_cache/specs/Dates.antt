-- The date of a text: that of its one Date field (RFC 5322, section 3.6.1).
use Rattle.std.specs.Prelude.{ℕ, ℤ, pos, Bool, false, List, [], ◌∷◌, map, codes, Option, Some, None, Result, Ok, Err, if◌then◌else◌}
use Rattle.std.specs.Char.{to_ascii_lowercase}
use Rattle.std.specs.Int.{int_div_euclid}
use Rattle.std.specs.Str.{bytes_eq}
use Rattle.jiff_core.specs.declared.error.Error.{Error}
use Rattle.jiff_fmt.specs.Rfc2822.{timestamp}
use Rattle.mail_header.specs.Field.{FieldText, fields_of}
use Rattle.mail_header.specs.Folding.{unfolded}

-- the name is Date in some case
abbrev pub is_date_name : List ℕ → Bool
is_date_name name = bytes_eq (map to_ascii_lowercase name) (codes "date")

-- the bodies of the fields of that name
abbrev pub date_bodies : List FieldText → List (List ℕ)
date_bodies [] = []
date_bodies (field ∷ fields) = if is_date_name field.name then field.body ∷ date_bodies fields else date_bodies fields

-- the one of them, where there is one alone
abbrev pub only_one : List (List ℕ) → Option (List ℕ)
only_one [] = None
only_one (body ∷ []) = Some body
only_one (body ∷ second ∷ more) = None

-- the whole seconds since the beginning of 1970 of what a reader of dates gives in nanoseconds
abbrev pub seconds_of : Result ℤ Error → Option ℤ
seconds_of (Ok nanoseconds) = Some (int_div_euclid nanoseconds (pos 1000000000))
seconds_of (Err fault) = None

-- the seconds that a field's body tells, where jiff's reader of RFC 2822 dates takes it without its folding
abbrev pub seconds_in : Option (List ℕ) → Option ℤ
seconds_in None = None
seconds_in (Some body) = seconds_of (timestamp false (unfolded body))

-- the seconds of a text's date, if it has one
abbrev pub date_of : List ℕ → Option ℤ
date_of text = seconds_in (only_one (date_bodies (fields_of text)))
