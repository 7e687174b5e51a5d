-- The tag that a text begins with (RFC 9051, sections 2.2.1 and 9).
use Rattle.std.specs.Prelude.{◌≡◌, ◌⊎◌, ◌<◌, ◌≤◌, ℕ, List, ◌∷◌, ◌++◌, decimal}
use Rattle.imap_model.specs.Tagged.{IsTag}

-- the text's first word, up to a space or to the end of the line, is a tag
pub record IsTagged (parts : List (List ℕ)) (word : List ℕ) : Type 0 where
  pub tag : IsTag word
  pub end : ℕ
  pub ends : (end ≡ 32) ⊎ (end ≡ 13)
  pub rest : List ℕ
  pub later : List (List ℕ)
  pub text : parts ≡ (word ++ end ∷ rest) ∷ later

-- a number from 1 to 2^32 - 1 without leading zeros, and this ending behind it
pub record IsNumberBefore (number : ℕ) (ending text : List ℕ) : Type 0 where
  pub nonzero : 0 < number
  pub fits : number ≤ 4294967295
  pub whole : text ≡ decimal number ++ ending
