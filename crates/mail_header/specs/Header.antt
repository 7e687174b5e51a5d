-- The lines of a text, and those of its header (RFC 5322, sections 2.1 and 2.2).
use Rattle.std.specs.Prelude.{ℕ, ◌==◌, ◌&&◌, Bool, List, [], ◌∷◌, if◌then◌else◌}
use Rattle.std.specs.List.{onto_first}

-- the end of a line
abbrev pub crlf : List ℕ
crlf = 13 ∷ 10 ∷ []

-- the two bytes are CR and LF
abbrev pub is_crlf : ℕ → ℕ → Bool
is_crlf first second = first == 13 && second == 10

-- the lines of a text, which CRLFs part
abbrev pub lines_of : List ℕ → List (List ℕ)
lines_of [] = [] ∷ []
lines_of (first ∷ []) = (first ∷ []) ∷ []
lines_of (first ∷ second ∷ rest) =
    if is_crlf first second then [] ∷ lines_of rest else onto_first first (lines_of (second ∷ rest))

-- the lines in front of the first empty one, or all where none is empty
abbrev pub before_empty : List (List ℕ) → List (List ℕ)
before_empty [] = []
before_empty ([] ∷ lines) = []
before_empty ((first ∷ rest) ∷ lines) = (first ∷ rest) ∷ before_empty lines

-- the lines of a text's header
abbrev pub header_lines : List ℕ → List (List ℕ)
header_lines text = before_empty (lines_of text)
