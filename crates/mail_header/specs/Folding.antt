-- Folding: a CRLF before a space or tab parts no two lines (RFC 5322, section 2.2.3).
use Rattle.std.specs.Prelude.{ℕ, ◌==◌, ◌||◌, Bool, false, List, [], ◌∷◌, ◌++◌, if◌then◌else◌}
use Rattle.mail_header.specs.Header.{crlf, lines_of, header_lines}

-- a space or a tab
abbrev pub is_blank : ℕ → Bool
is_blank byte = byte == 32 || byte == 9

-- the line begins with a space or tab
abbrev pub begins_blank : List ℕ → Bool
begins_blank [] = false
begins_blank (first ∷ rest) = is_blank first

-- a line put in front of others, the next of which goes on with it where that begins with a space or tab
abbrev pub in_front : List ℕ → List (List ℕ) → List (List ℕ)
in_front line [] = line ∷ []
in_front line (next ∷ lines) =
    if begins_blank next then (line ++ crlf ++ next) ∷ lines else line ∷ next ∷ lines

-- the lines, each with those that go on with it
abbrev pub whole_lines : List (List ℕ) → List (List ℕ)
whole_lines [] = []
whole_lines (line ∷ lines) = in_front line (whole_lines lines)

-- the header's lines, each with those that go on with it
abbrev pub whole_header : List ℕ → List (List ℕ)
whole_header text = whole_lines (header_lines text)

-- what stands between a line and the next
abbrev pub between : List ℕ → List ℕ
between next = if begins_blank next then [] else crlf

-- the lines as one text, in which each CRLF before a space or tab is left out
abbrev pub joined : List (List ℕ) → List ℕ
joined [] = []
joined (line ∷ []) = line
joined (line ∷ next ∷ lines) = line ++ (between next ++ joined (next ∷ lines))

-- the text without the CRLFs of its folding
abbrev pub unfolded : List ℕ → List ℕ
unfolded text = joined (lines_of text)
