-- The body of a journal's record, and the frame that carries it: this client's own format (docs/JOURNAL.md).
use Rattle.std.specs.Prelude.{ℕ, ◌≤◌, ◌<◌, List, [], ◌∷◌, ◌++◌, length}
use Rattle.std.specs.Int.{w32, to_be_bytes}

-- a record's body has from 1 to 2^30 bytes
pub record IsBody (body : List ℕ) : Type 0 where
  pub some : 0 < length body
  pub fits : length body ≤ 1073741824

-- what is written behind a closed gate: the length, the body, and the next gate, closed
abbrev pub frame_of : List ℕ → List ℕ
frame_of body = to_be_bytes w32 (length body) ++ body ++ 0 ∷ []
