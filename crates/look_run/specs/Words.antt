-- The words of the two commands that only look at the journal (this client's profile).
use Rattle.std.specs.Prelude.{◌≡◌, ℕ, ◌<◌, ◌^◌, List, [], ◌∷◌, codes, decimal, ⊤}
use Rattle.look_run.specs.declared.look.Look.{Look}
use Rattle.look_run.specs.declared.look.Look.TheVariants as looks

-- The word writes an action's number: from 1 to 4,294,967,295, without leading zeros.
pub record WritesNumber (word : List ℕ) (n : ℕ) : Type 0 where
  pub is : word ≡ decimal n
  pub from_one : 0 < n
  pub fits : n < 2 ^ 32

-- The words are `history`.
pub record WritesHistory (words : List (List ℕ)) : Type 0 where
  pub are : words ≡ codes "history" ∷ []

-- The words are `letter N`.
pub record WritesLetter (words : List (List ℕ)) (n : ℕ) : Type 0 where
  pub number : List ℕ
  pub are : words ≡ codes "letter" ∷ number ∷ []
  pub writes : WritesNumber number n

-- the words ask to see this
abbrev pub Asks : List (List ℕ) → Look → Type 0
Asks words looks.History = WritesHistory words
Asks words (looks.Letter n) = WritesLetter words n

-- a letter is asked for by a number from 1
abbrev pub IsNumbered : Look → Type 0
IsNumbered looks.History = ⊤
IsNumbered (looks.Letter n) = 0 < n

-- the words ask for neither
abbrev pub AsksNothing : List (List ℕ) → Type 0
AsksNothing words = (look : Look) → Asks words look → ⊥
