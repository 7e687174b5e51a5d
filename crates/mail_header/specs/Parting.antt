-- A text cut behind its first line, and a header behind the first of its lines.
use Rattle.std.specs.Prelude.{◌≡◌, ℕ, ◌<◌, ◌⊎◌, List, [], ◌∷◌, ◌++◌, length}
use Rattle.mail_header.specs.Header.{crlf, lines_of}
use Rattle.mail_header.specs.Folding.{whole_header}

-- the text's first line ends with a CRLF, behind which the rest stands
pub record IsParted (text line rest : List ℕ) : Type 0 where
  pub lines : lines_of text ≡ line ∷ lines_of rest
  pub bytes : text ≡ line ++ crlf ++ rest

-- the line is the whole text, and the rest has no bytes
pub record IsAlone (text line rest : List ℕ) : Type 0 where
  pub lines : lines_of text ≡ line ∷ []
  pub bytes : text ≡ line
  pub none : rest ≡ []

-- the text's first line, and the rest behind its CRLF, if it has one
abbrev pub IsFirstLine : List ℕ → List ℕ → List ℕ → Type 0
IsFirstLine text line rest = IsParted text line rest ⊎ IsAlone text line rest

-- the header is this line with those that go on with it, and behind its CRLF the header of this rest
pub record IsFirstWhole (text line rest : List ℕ) : Type 0 where
  pub lines : whole_header text ≡ line ∷ whole_header rest
  pub bytes : (rest ≡ []) ⊎ (text ≡ line ++ crlf ++ rest)
  pub shorter : length rest < length text
