-- What is read of what was written (docs/CASES.md, "Words").
use Rattle.std.specs.Prelude.{ℕ, ◌≡◌, ◌<◌, ◌^◌, ◌*◌, ◌+◌, ◌==◌, ◌&&◌, ◌||◌, nat_le, length, replicate, Bool, true, false, List, [], ◌∷◌, ◌++◌, Option, Some, None, IfOk, IfErr, Result, if◌then◌else◌, All}
use Rattle.std.specs.List.{concat, list_all}
use Rattle.cases.specs.Written.{counted, digit_value, is_bare, is_long_run, quoted}
use Rattle.cases.specs.declared.fault.WordFault.{WordFault}
use Rattle.cases.specs.declared.fault.WordFault.TheVariants.{Memory}
use Rattle.cases.specs.declared.words.Word.{Word}

-- a text of bytes, no longer than memory may hold
pub record IsText (text : List ℕ) : Type 0 where
  pub bytes : All (λ byte. byte < 256) text
  pub size : length text < 2 ^ 63

-- whether a quote stands in front
abbrev pub begins_quoted : List ℕ → Bool
begins_quoted [] = false
begins_quoted (first ∷ rest) = first == 34

-- what ends a word: the line's end, or a space and what stands behind it
abbrev pub ended : Option (List ℕ) → List ℕ
ended None = []
ended (Some rest) = 32 ∷ rest

-- a text in quotes: by its count where it is a long run
abbrev pub in_quotes : List ℕ → List ℕ
in_quotes text = if is_long_run text then counted text else quoted text

-- a text so often
abbrev pub repeated : ℕ → List ℕ → List ℕ
repeated count text = concat (replicate count text)

-- bytes that a bare word may have, at least one
pub record IsBare (text : List ℕ) : Type 0 where
  pub some : 0 < length text
  pub bytes : list_all is_bare text ≡ true

-- a word of bytes, which may stand without quotes if it does
pub record IsWord (word : Word) : Type 0 where
  pub text : IsText word.bytes
  pub bare : word.is_bare ≡ true → IsBare word.bytes

-- a word as it stands in a line
abbrev pub as_it_stands : Word → List ℕ
as_it_stands word = if word.is_bare then word.bytes else in_quotes word.bytes

-- words as a line, with a space between each two
abbrev pub line_of : List Word → List ℕ
line_of [] = []
line_of (word ∷ []) = as_it_stands word
line_of (word ∷ next ∷ more) = as_it_stands word ++ 32 ∷ line_of (next ∷ more)

-- what was written is read so, or memory is out
abbrev pub Reads : {T : Type 0} → Result T WordFault → (T → Type 0) → Type 0
Reads result so = IfOk result so × IfErr result (λ fault. fault ≡ Memory)

-- of a text in quotes its bytes are read, and what ends the word is left
abbrev pub ReadsText : {T : Type 0} → Result T WordFault → (T → List ℕ) → (text old new : List ℕ) → Type 0
ReadsText result left_of text old new = (whole : List ℕ) (left : Option (List ℕ)) → IsText whole → text ≡ in_quotes whole ++ ended left →
    Reads result (λ rest. (left_of rest ≡ ended left) × (new ≡ old ++ whole))

-- what stands behind a mark, where it stands in front
abbrev pub behind : ℕ → List ℕ → Option (List ℕ)
behind mark [] = None
behind mark (first ∷ rest) = if first == mark then Some rest else None

-- the byte of two digits
abbrev pub of_digits : Option ℕ → Option ℕ → List ℕ → Option (ℕ × List ℕ)
of_digits None low rest = None
of_digits (Some high) None rest = None
of_digits (Some high) (Some low) rest = Some (high * 16 + low, rest)

-- the byte of the two digits in front, and what stands behind them
abbrev pub unhexed : List ℕ → Option (ℕ × List ℕ)
unhexed [] = None
unhexed (high ∷ []) = None
unhexed (high ∷ low ∷ rest) = of_digits (digit_value high) (digit_value low) rest

-- the byte that stands behind a backslash, and what stands behind that
abbrev pub unescaped : List ℕ → Option (ℕ × List ℕ)
unescaped [] = None
unescaped (letter ∷ rest) =
    if letter == 34 || letter == 92 then Some (letter, rest) else
    if letter == 114 then Some (13, rest) else
    if letter == 110 then Some (10, rest) else
    if letter == 120 then unhexed rest else
    None

-- the byte in front of what stands between quotes, and what stands behind it
abbrev pub unquoted : List ℕ → Option (ℕ × List ℕ)
unquoted [] = None
unquoted (first ∷ rest) =
    if first == 34 then None else
    if first == 92 then unescaped rest else
    if nat_le 32 first && nat_le first 126 then Some (first, rest) else
    None
