-- What is taken of words that are read one after another (docs/CASES.md, "Words").
use Rattle.std.specs.Prelude.{ℕ, ◌&&◌, Bool, true, false, List, [], ◌∷◌, codes, map, Option, Some, None, if◌then◌else◌}
use Rattle.std.specs.Str.{bytes_eq}
use Rattle.cases.specs.declared.words.Word.{Word}

-- what words stand for
abbrev pub bytes_of : List Word → List (List ℕ)
bytes_of words = map (λ word. word.bytes) words

-- whether a word is this keyword
abbrev pub is_keyword : List ℕ → Word → Bool
is_keyword keyword word = word.is_bare && bytes_eq word.bytes keyword

-- whether the next word stands without quotes
abbrev pub begins_bare : List Word → Bool
begins_bare [] = false
begins_bare (word ∷ rest) = word.is_bare

-- whether no word is left of a step
abbrev pub is_step_done : List Word → Bool
is_step_done [] = true
is_step_done (word ∷ rest) = is_keyword (codes ";") word

-- the next word, which stands without quotes, and what is left behind it
abbrev pub next_bare : List Word → Option (List ℕ × List Word)
next_bare [] = None
next_bare (word ∷ rest) = if word.is_bare then Some (word.bytes, rest) else None

-- the next word of a step, and what is left behind it
abbrev pub next_text : List Word → Option (List ℕ × List Word)
next_text [] = None
next_text (word ∷ rest) = if is_keyword (codes ";") word then None else Some (word.bytes, rest)

-- what is left behind a keyword, where it stands in front
abbrev pub behind_keyword : List ℕ → List Word → Option (List Word)
behind_keyword keyword [] = None
behind_keyword keyword (word ∷ rest) = if is_keyword keyword word then Some rest else None
