-- Gated records: a gate of one byte, a length of four bytes, high byte first, and a body of that length.
use Rattle.std.specs.Prelude.{◌≡◌, ◌≢◌, ℕ, List, [], ◌∷◌, ◌++◌, length, drop}
use Rattle.std.specs.Int.{w32, to_be_bytes}
use Rattle.std.specs.List.{AllByRecursion}
use Rattle.mail_base.specs.Bodies.{IsBody}

-- bodies, each of which a record can have
abbrev pub AreBodies : List (List ℕ) → Type 0
AreBodies bodies = AllByRecursion IsBody bodies

-- a record whose gate is open
abbrev pub open_record : List ℕ → List ℕ
open_record body = 1 ∷ (to_be_bytes w32 (length body) ++ body)

-- records of these bodies, one behind the other, with open gates
abbrev pub records : List (List ℕ) → List ℕ
records [] = []
records (body ∷ bodies) = open_record body ++ records bodies

-- From the gate at this place on stand records of these bodies with open gates, each whole, up to the first closed
-- gate. A gate is open exactly where it is 1.
pub record From (place : ℕ) (bodies : List (List ℕ)) (bytes : List ℕ) : Type 0 where
  pub sizes : AreBodies bodies
  pub gate : ℕ
  pub rest : List ℕ
  pub closed : gate ≢ 1
  pub is : drop place bytes ≡ records bodies ++ gate ∷ rest
