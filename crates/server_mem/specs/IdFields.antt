-- The Message-ID fields among the fields of a header (RFC 5322, section 3.6.4).
use Rattle.std.specs.Prelude.{ℕ, Bool, false, ◌&&◌, ◌||◌, List, [], ◌∷◌, ◌++◌, if◌then◌else◌}
use Rattle.mail_header.specs.Field.{FieldText}
use Rattle.mail_header.specs.Folding.{unfolded}
use Rattle.mail_header.specs.Header.{crlf}
use Rattle.mail_header.specs.Identifier.{is_id_name}
use Rattle.imap_model.specs.Searching.{holds_part, lower}

-- one of them holds the part, which is in lower case
abbrev pub any_holds : List ℕ → List FieldText → Bool
any_holds part [] = false
any_holds part (field ∷ fields) = (is_id_name field.name && holds_part part (lower (unfolded field.body))) || any_holds part fields

-- their text, and an empty line
abbrev pub id_text : List FieldText → List ℕ
id_text [] = crlf
id_text (field ∷ fields) = if is_id_name field.name then (field.name ++ 58 ∷ field.body) ++ crlf ++ id_text fields else id_text fields
