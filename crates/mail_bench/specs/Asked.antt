-- What the words of the program ask for.
use Rattle.std.specs.Prelude.{◌≡◌, ◌⊎◌, true, false, ℕ, ◌*◌, ◌-◌, ◌^◌, List, [], ◌∷◌, codes}
use Rattle.mail_base.specs.Number.{IsNumberUpTo}
use Rattle.mail_bench.specs.declared.load.Load.{Load}
use Rattle.mail_bench.specs.declared.load.Task.{Task}
use Rattle.mail_bench.specs.declared.load.Task.TheVariants.{Feed, Record, Store, Commit, Turn, Hear}
use Rattle.mail_bench.specs.Cases.{unit_of}
use Rattle.mail_bench.specs.Names.{name_of_case, name_of_direction, name_of_keeper, name_of_kind, name_of_part, name_of_told}

-- `feed` and `read` ask for a stream, whose frames are read for `read`
abbrev pub AsksLoad : List ℕ → List ℕ → ℕ → Load → Type 0
AsksLoad what case number load =
    (((what ≡ codes "feed") × (load.reads ≡ false)) ⊎ ((what ≡ codes "read") × (load.reads ≡ true)))
    × (case ≡ name_of_case load.case) × (load.size ≡ number * unit_of load.case)

-- what is done, on what, and how long or how often
abbrev pub AsksFor : List ℕ → List ℕ → ℕ → Task → Type 0
AsksFor what case number (Feed load) = AsksLoad what case number load
AsksFor what case number (Record direction times) = (what ≡ codes "record") × (case ≡ name_of_direction direction) × (times ≡ number)
AsksFor what case number (Store part megabytes) = (what ≡ codes "store") × (case ≡ name_of_part part) × (megabytes ≡ number)
AsksFor what case number (Commit told times) = (what ≡ codes "commit") × (case ≡ name_of_told told) × (times ≡ number)
AsksFor what case number (Turn times) = (what ≡ codes "turn") × (case ≡ codes "here") × (times ≡ number)
AsksFor what case number (Hear keeper kind lines) = (what ≡ name_of_keeper keeper) × (case ≡ name_of_kind kind) × (lines ≡ number)

-- Three words ask for it, and the third is a number in decimal digits.
pub record Asks (words : List (List ℕ)) (task : Task) : Type 0 where
  pub what : List ℕ
  pub case : List ℕ
  pub digits : List ℕ
  pub number : ℕ
  pub are : words ≡ what ∷ case ∷ digits ∷ []
  pub is : IsNumberUpTo (2 ^ 32 - 1) digits number
  pub asks : AsksFor what case number task
