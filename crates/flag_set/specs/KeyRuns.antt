-- How the first keys of two rising runs stand to their union (RFC 9051, section 2.3.2).
use Rattle.std.specs.Prelude.{◌≡◌, ◌≤◌, ◌<◌, ◌+◌, ℕ, List, [], ◌∷◌, drop, length}
use Rattle.std.specs.Ordering.{MatchOrdering}
use Rattle.flag_set.specs.FlagSet.{order, union}
use Rattle.flag_set.specs.declared.key_list.Kept.{Kept}
use Rattle.flag_set.specs.declared.key_list.Kept.TheVariants.{One, Several}

-- the key comes first in the union of the two sets, and stands for so many keys at the front of each
pub record IsFirst (left right : List (List ℕ)) (key : List ℕ) (lefts rights : ℕ) : Type 0 where
  pub comes_first : union left right ≡ key ∷ union (drop lefts left) (drop rights right)
  pub left_within : lefts ≤ length left
  pub right_within : rights ≤ length right
  pub some : 0 < lefts + rights

-- the lower of two keys, and how often each of these is it
abbrev pub IsLower : List ℕ → List ℕ → List ℕ → ℕ → ℕ → Type 0
IsLower key other lower lefts rights = MatchOrdering (order key other)
    ((lower ≡ key) × (lefts ≡ 1) × (rights ≡ 0))
    ((lower ≡ key) × (lefts ≡ 1) × (rights ≡ 1))
    ((lower ≡ other) × (lefts ≡ 0) × (rights ≡ 1))

-- the keys that are kept, whether one or several
abbrev pub kept_keys : Kept → List (List ℕ)
kept_keys (One key) = key ∷ []
kept_keys (Several keys) = keys.items
