-- The flags between parentheses (RFC 9051, section 9, flag-list and flag-perm), whatever their number and their length.
use Rattle.std.specs.Prelude.{◌≡◌, ◌⊎◌, ℕ, Bool, IsTrue, List}
use Rattle.std.specs.List.{AllByRecursion, list_any}
use Rattle.flag_set.specs.Flag.{is_flag}
use Rattle.flag_set.specs.FlagList.{flags_alone, flags_of, is_any, set_of}

-- the text is flags with spaces between, and these are their keys
pub record IsFlags (text : List ℕ) (keys : List (List ℕ)) : Type 0 where
  pub each : AllByRecursion (λ flag. IsTrue (is_flag flag)) (flags_of text)
  pub set : keys ≡ set_of (flags_of text)

-- the text is flags and `\*`, which may stand anywhere among them
pub record ArePermanent (text : List ℕ) (keys : List (List ℕ)) (any : Bool) : Type 0 where
  pub each : AllByRecursion (λ flag. IsTrue (is_flag flag) ⊎ IsTrue (is_any flag)) (flags_of text)
  pub set : keys ≡ set_of (flags_alone (flags_of text))
  pub starred : any ≡ list_any is_any (flags_of text)
