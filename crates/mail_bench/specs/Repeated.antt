-- A text that is repeated without end, by the places of its bytes.
use Rattle.std.specs.Prelude.{ℕ, ◌%◌, List, length, map, get_or}
use Rattle.std.specs.List.{range_with_len}

-- the byte at a place, from 0
abbrev pub byte_in : List ℕ → ℕ → ℕ
byte_in text place = get_or text (place % length text) 0

-- so many bytes, from a place on
unfoldable pub stretch : List ℕ → ℕ → ℕ → List ℕ
stretch text at count = map (λ place. byte_in text place) (range_with_len at count)
