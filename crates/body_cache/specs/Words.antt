-- The words that ask for texts of messages (this client's profile).
use Rattle.std.specs.Prelude.{◌≡◌, ℕ, ◌<◌, ◌^◌, List, [], ◌∷◌, codes, decimal}
use Rattle.mail_base.specs.Arguments.{WritesBox}
use Rattle.body_cache.specs.declared.reading.Reading.{Reading}
use Rattle.body_cache.specs.declared.reading.Reading.TheVariants as readings

-- The word writes a UID: a number from 1 to 4,294,967,295, without leading zeros.
pub record WritesUid (word : List ℕ) (uid : ℕ) : Type 0 where
  pub is : word ≡ decimal uid
  pub from_one : 0 < uid
  pub fits : uid < 2 ^ 32

-- The words are this command and `BOX ID`.
pub record WritesMessage (command : List ℕ) (words : List (List ℕ)) (name : List ℕ) (uid : ℕ) : Type 0 where
  pub box : List ℕ
  pub id : List ℕ
  pub are : words ≡ command ∷ box ∷ id ∷ []
  pub names : WritesBox box name
  pub message : WritesUid id uid

-- The words are `dates BOX`.
pub record WritesDates (words : List (List ℕ)) (name : List ℕ) : Type 0 where
  pub box : List ℕ
  pub are : words ≡ codes "dates" ∷ box ∷ []
  pub names : WritesBox box name

-- the words ask for this
abbrev pub Asks : List (List ℕ) → Reading → Type 0
Asks words (readings.Fetch name uid) = WritesMessage (codes "fetch") words name uid
Asks words (readings.Show name uid) = WritesMessage (codes "show") words name uid
Asks words (readings.Dates name) = WritesDates words name

-- the words ask for nothing
abbrev pub AsksNothing : List (List ℕ) → Type 0
AsksNothing words = (reading : Reading) → Asks words reading → ⊥

-- a text is to be fetched
abbrev pub IsFetch : Reading → Type 0
IsFetch (readings.Fetch name uid) = Unit {0}
IsFetch (readings.Show name uid) = ⊥
IsFetch (readings.Dates name) = ⊥

-- the words ask that a text is fetched
abbrev pub AsksFetch : List (List ℕ) → Type 0
AsksFetch words = (name : List ℕ) × (uid : ℕ) × WritesMessage (codes "fetch") words name uid

-- the text of this message is to be fetched
abbrev pub IsFetchOf : Reading → List ℕ → ℕ → Type 0
IsFetchOf reading name uid = reading ≡ readings.Fetch name uid
