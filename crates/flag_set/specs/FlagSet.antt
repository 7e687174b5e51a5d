-- Sets of flags, as the rising lists of their keys (RFC 9051, section 2.3.2).
use Rattle.std.specs.Prelude.{◌≡◌, ◌≤◌, ℕ, Bool, false, not, List, [], ◌∷◌, length}
use Rattle.std.specs.Cmp.Lexicographic.{slice_cmp}
use Rattle.std.specs.List.{filter, insert, list_any}
use Rattle.std.specs.Ordering.{match_ordering, nat_cmp}
use Rattle.std.specs.Str.{bytes_eq}
use Rattle.std.specs.declared.cmp.Ordering.{Ordering}
use Rattle.std.specs.declared.cmp.Ordering.TheVariants.{Less}
use Rattle.flag_set.specs.FlagKey.{IsKey}

-- keys come in the order of their bytes
abbrev pub order : List ℕ → List ℕ → Ordering
order = slice_cmp nat_cmp

-- each of the keys has P
abbrev pub AllKeys : (List ℕ → Type 0) → List (List ℕ) → Type 0
AllKeys P [] = Unit {0}
AllKeys P (key ∷ rest) = P key × AllKeys P rest

-- the keys rise strictly, so none comes twice
abbrev pub IsRising : List (List ℕ) → Type 0
IsRising [] = Unit {0}
IsRising (key ∷ rest) = AllKeys (λ later. order key later ≡ Less) rest × IsRising rest

-- the list is a set of flags
pub record IsFlagSet (keys : List (List ℕ)) : Type 0 where
  pub rising : IsRising keys
  pub flags : AllKeys IsKey keys

-- whether the set has the key
abbrev pub has : List (List ℕ) → List ℕ → Bool
has keys key = list_any (bytes_eq key) keys

-- the set with the key in its place, unless it is there
abbrev pub put : List ℕ → List (List ℕ) → List (List ℕ)
put key [] = key ∷ []
put key (first ∷ rest) = match_ordering (order key first) (key ∷ first ∷ rest) (first ∷ rest) (first ∷ put key rest)

-- the set doesn't have the key, whose place is there
pub record IsGap (keys : List (List ℕ)) (key : List ℕ) (at : ℕ) : Type 0 where
  pub absent : has keys key ≡ false
  pub within : at ≤ length keys
  pub goes : put key keys ≡ insert keys at key

-- the second set with each key of the first put in
abbrev pub union : List (List ℕ) → List (List ℕ) → List (List ℕ)
union [] keys = keys
union (key ∷ rest) keys = put key (union rest keys)

-- the first set without the keys of the second
abbrev pub minus : List (List ℕ) → List (List ℕ) → List (List ℕ)
minus keys others = filter (λ key. not (has others key)) keys
