-- What a script of pieces gives, as a list of bytes.
use Rattle.std.specs.Prelude.{ℕ, zero, suc, ◌-◌, ◌%◌, nat_lt, List, [], ◌∷◌, ◌++◌, ◌^◌, take, drop, length, if◌then◌else◌}
use Rattle.world_mem.specs.declared.script.Script.{Script}
use Rattle.world_mem.specs.declared.script.Script.TheVariants.{Piece, Endless}

-- the same bytes again and again, so many times
abbrev pub again : ℕ → List ℕ → List ℕ
again zero bytes = []
again (suc n) bytes = bytes ++ again n bytes

-- the first n bytes of a script, or all where it has fewer; an endless piece of no bytes gives none
abbrev pub next_of : ℕ → List Script → List ℕ
next_of n [] = []
next_of n (Piece bytes ∷ script) = take n bytes.items ++ next_of (n - length bytes.items) script
next_of n (Endless bytes ∷ script) = take n (again n bytes.items)

-- behind so many bytes of a script, what is left of the piece whose turn it is
abbrev pub rest_at : ℕ → List Script → List ℕ
rest_at at [] = []
rest_at at (Piece bytes ∷ script) =
    if nat_lt at (length bytes.items) then drop at bytes.items else rest_at (at - length bytes.items) script
rest_at at (Endless bytes ∷ script) = drop (at % length bytes.items) bytes.items

-- the same, of a script that ends behind 2^64 - 1 bytes, the last value of a count
abbrev pub coming : ℕ → List Script → List ℕ
coming given script = take (2 ^ 64 - 1 - given) (rest_at given script)
