-- Lines put together to a text (RFC 5322, section 2.1).
use Rattle.std.specs.Prelude.{◌≡◌, ℕ, ◌+◌, List, [], ◌∷◌, ◌++◌, slice_index}
use Rattle.mail_header.specs.Header.{crlf}

-- the lines, with a CRLF between each and the next
abbrev pub with_crlfs : List (List ℕ) → List ℕ
with_crlfs [] = []
with_crlfs (line ∷ []) = line
with_crlfs (line ∷ next ∷ lines) = line ++ (crlf ++ with_crlfs (next ∷ lines))

-- no LF stands behind a CR in the line
abbrev pub HoldsNoCrlf : List ℕ → Type 0
HoldsNoCrlf line = (at : ℕ) → slice_index line at ≡ 13 → slice_index line (at + 1) ≡ 10 → ⊥
