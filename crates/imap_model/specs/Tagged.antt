-- The tag of a completion (RFC 9051, section 9, tag, and section 2.2.1), and what this client's tags stand for.
use Rattle.std.specs.Prelude.{◌≡◌, ◌≢◌, ◌<◌, ◌≤◌, ℕ, Bool, IsTrue, ◌&&◌, ◌||◌, ◌==◌, not, List, [], ◌∷◌, ◌++◌, decimal}
use Rattle.std.specs.List.{AllByRecursion}
use Rattle.flag_set.specs.Flag.{is_atom_byte}
use Rattle.mail_base.specs.declared.tag.Tag.{Tag}
use Rattle.mail_base.specs.declared.tag.Tag.TheVariants.{Play, Again, Count, Strange}

-- a byte of an astring (ASTRING-CHAR)
abbrev pub is_astring_byte : ℕ → Bool
is_astring_byte byte = is_atom_byte byte || byte == 93

-- a byte of a tag
abbrev pub is_tag_byte : ℕ → Bool
is_tag_byte byte = is_astring_byte byte && not (byte == 43)

-- one or more such bytes
abbrev pub IsTag : List ℕ → Type 0
IsTag text = (text ≢ []) × AllByRecursion (λ byte. IsTrue (is_tag_byte byte)) text

-- a letter and the decimal digits of a number from 1 to 2^32 - 1, without leading zeros
pub record IsLettered (letter number : ℕ) (text : List ℕ) : Type 0 where
  pub nonzero : 0 < number
  pub fits : number ≤ 4294967295
  pub whole : text ≡ letter ∷ decimal number

-- a letter and a number as above, and behind them `R2` or `R3`
pub record IsTried (letter number turn : ℕ) (text : List ℕ) : Type 0 where
  pub nonzero : 0 < number
  pub fits : number ≤ 4294967295
  pub second : 2 ≤ turn
  pub third : turn ≤ 3
  pub whole : text ≡ letter ∷ decimal number ++ 82 ∷ decimal turn

-- `Pn` is the tag of action n, `Cn` that of the connection's nth other command; this client uses no other tag, and tags have case
abbrev pub NamesTag : List ℕ → Tag → Type 0
NamesTag text (Play number) = IsLettered 80 number text
NamesTag text (Again number turn) = IsTried 80 number turn text
NamesTag text (Count number) = IsLettered 67 number text
NamesTag text Strange = (number : ℕ) → (¬ IsLettered 80 number text) × (¬ IsLettered 67 number text) × ((turn : ℕ) → ¬ IsTried 80 number turn text)
