-- Codes between their brackets, as this server writes them (RFC 9051, section 7.1).
use Rattle.std.specs.Prelude.{◌≡◌, ℕ, Bool, true, not, ◌&&◌, ◌||◌, ◌==◌, nat_lt, List}
use Rattle.std.specs.List.{list_all}
use Rattle.imap_model.specs.Codes.{IsCode}
use Rattle.imap_model.specs.declared.code.Code.{Code}
use Rattle.imap_model.specs.declared.code.Code.TheVariants as codings
use Rattle.imap_model.specs.declared.ending.Ending.{Ending}
use Rattle.response_lines.specs.LineTexts.{inner_text}

-- a byte that neither ends a code nor a line, and begins no quoted string and no literal's header
abbrev pub is_inner_byte : ℕ → Bool
is_inner_byte byte = nat_lt 31 byte && not (byte == 34 || byte == 93 || byte == 123)

-- the text spells the code, and can stand between brackets
pub record IsInside (inner : List ℕ) (code : Code) : Type 0 where
  pub plain : list_all is_inner_byte inner ≡ true
  pub spells : IsCode inner code

-- what is written between the brackets spells the code, if there is one
abbrev pub FitsBrackets : Ending → Code → Type 0
FitsBrackets ending codings.None = Unit {0}
FitsBrackets ending code = IsInside (inner_text ending code) code
