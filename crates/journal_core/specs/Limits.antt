-- Places that a journal may not end behind, in bytes.
use Rattle.std.specs.Prelude.{ℕ}

-- an accepted action's record: room is left to play what was accepted
abbrev pub max_accepted : ℕ
max_accepted = 536870912

-- any other record
abbrev pub max_side : ℕ
max_side = 1073741824
