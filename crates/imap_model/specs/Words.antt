-- The words of a response line, and the spaces between them (RFC 9051, section 9: SP and response-data).
-- Where the standard has one space, this client takes one or more.
use Rattle.std.specs.Prelude.{◌≡◌, ◌≢◌, ℕ, Bool, false, IsTrue, ◌&&◌, ◌==◌, not, nat_lt, List, [], ◌∷◌, ◌++◌, map}
use Rattle.std.specs.List.{AllByRecursion}
use Rattle.std.specs.Char.{to_ascii_lowercase}
use Rattle.imap_model.specs.Parts.{EndsInHeader}

-- a byte of a word: none but spaces and control bytes end it
abbrev pub is_word_byte : ℕ → Bool
is_word_byte byte = nat_lt 32 byte && not (byte == 127)

-- no word goes on here
abbrev pub Stops : List ℕ → Type 0
Stops [] = Unit {0}
Stops (byte ∷ rest) = is_word_byte byte ≡ false

-- spaces, also none
abbrev pub AreSpaces : List ℕ → Type 0
AreSpaces text = AllByRecursion (λ byte. byte ≡ 32) text

-- one or more spaces
abbrev pub IsGap : List ℕ → Type 0
IsGap text = (text ≢ []) × AreSpaces text

-- one or more bytes of a word
abbrev pub IsWord : List ℕ → Type 0
IsWord text = (text ≢ []) × AllByRecursion (λ byte. IsTrue (is_word_byte byte)) text

-- the two differ in the case of ASCII letters alone
abbrev pub SameWord : List ℕ → List ℕ → Type 0
SameWord word name = map to_ascii_lowercase word ≡ map to_ascii_lowercase name

-- the text begins with this word, in any case, and goes on so
pub record Begins (text name rest : List ℕ) : Type 0 where
  pub word : List ℕ
  pub same : SameWord word name
  pub whole : text ≡ word ++ rest
  pub ends : Stops rest

-- the text begins with one or more spaces, and goes on so: with another byte
pub record Spaced (text rest : List ℕ) : Type 0 where
  pub gap : List ℕ
  pub spaces : IsGap gap
  pub whole : text ≡ gap ++ rest
  pub no_more : (later : List ℕ) → rest ≢ 32 ∷ later

-- the text is these words, spaces before each, and then this rest
abbrev pub AreWords : List ℕ → List (List ℕ) → List ℕ → Type 0
AreWords text [] rest = text ≡ rest
AreWords text (word ∷ words) rest =
    (later : List ℕ) × Spaced text (word ++ later) × IsWord word × Stops later × (¬ EndsInHeader word) × AreWords later words rest

-- an untagged line: `*`, spaces, and this rest
abbrev pub IsUntagged : List ℕ → List ℕ → Type 0
IsUntagged line rest = (later : List ℕ) × (line ≡ 42 ∷ later) × Spaced later rest

-- an untagged line that begins with this word
abbrev pub IsNamed : List ℕ → List ℕ → List ℕ → Type 0
IsNamed line name rest = (later : List ℕ) × IsUntagged line later × Begins later name rest

-- an untagged line that begins with digits and this word (mailbox-data, message-data)
abbrev pub IsNumbered : List ℕ → List ℕ → List ℕ → List ℕ → Type 0
IsNumbered line digits name rest =
    (later : List ℕ) × (behind : List ℕ) × IsUntagged line (digits ++ later) × Spaced later behind × Begins behind name rest
