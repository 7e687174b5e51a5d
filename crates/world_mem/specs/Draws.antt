-- Numbers drawn from a seed, by a linear congruential generator (this project's own choice of one).
use Rattle.std.specs.Prelude.{ℕ, zero, suc, ◌+◌, ◌*◌, ◌/◌, ◌%◌, ◌^◌}

-- the number that the next draw leaves
unfoldable pub next : ℕ → ℕ
next x = (69069 * x + 1) % 2 ^ 32

-- what a draw below this bound gives, where it left this number
unfoldable pub drawn : ℕ → ℕ → ℕ
drawn bound x = (x / 65536) % bound

-- the number that so many draws leave
abbrev pub after : ℕ → ℕ → ℕ
after zero x = x
after (suc n) x = next (after n x)
