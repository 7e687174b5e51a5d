-- The last of a world's moments is the moment now.
use Rattle.std.proofs.Common.{◌≡◌, ℕ, ◌-◌, ◌<◌, List, [], ◌∷◌, ◌++◌, length, reverse, slice_get, Some, refl, ◌∙◌, ap, arith}
use Rattle.std.proofs.lemmas.List.{reverse-append, length-reverse}
use Rattle.world_traits.specs.Moments.{Moment, Clock}
use Rattle.world_mem.specs.Numbered.{moments}

behind_all : (ms : List Moment) (m : Moment) → slice_get (ms ++ m ∷ []) (length ms) ≡ Some m
behind_all [] m = refl
behind_all (x ∷ xs) m = behind_all xs m

-- a clock's last moment, by its number
pub last_now : (c : Clock) (k : ℕ) → k ≡ length (moments c) - 1 → slice_get (moments c) k ≡ Some c.now
last_now c k is =
    let number : k ≡ length (reverse c.past) = omega (arith, is, length-reverse (c.now ∷ c.past), length-reverse c.past) in
    ap (λ (ms : List Moment). slice_get ms k) (reverse-append (c.now ∷ []) c.past)
    ∙ ap (λ (n : ℕ). slice_get (reverse c.past ++ c.now ∷ []) n) number
    ∙ behind_all (reverse c.past) c.now

-- this number is that of a moment
pub last_there : (c : Clock) (k : ℕ) → k ≡ length (moments c) - 1 → k < length (moments c)
last_there c k is = omega (arith, is, length-reverse (c.now ∷ c.past))
