-- What the first bytes of a record say of it.
use Rattle.std.specs.Prelude.{◌≡◌, ℕ, ◌+◌, ◌≤◌, ◌<◌, List, ◌∷◌, length, take, ⊤}
use Rattle.std.specs.Int.{w32, to_be_bytes}
use Rattle.journal_core.specs.declared.reading.Front.{Front}
use Rattle.journal_core.specs.declared.reading.Front.TheVariants.{Closed, Torn, Whole}
use Rattle.journal_core.specs.Reading.{HasClosedGate, IsTorn}

-- a record with a body of so many bytes stands whole at the head of these bytes, and the next gate behind it
pub record IsWhole (size : ℕ) (bytes : List ℕ) : Type 0 where
  pub some : 0 < size
  pub fits : size ≤ 1073741824
  pub long : size + 6 ≤ length bytes
  pub front : take 5 bytes ≡ 1 ∷ to_be_bytes w32 size

-- what stands at the head of these bytes
abbrev pub FrontIs : Front → List ℕ → Type 0
FrontIs Closed bytes = HasClosedGate 0 bytes
FrontIs Torn bytes = IsTorn 0 bytes
FrontIs (Whole size) bytes = IsWhole size bytes

-- a whole record and its next gate end below this bound
abbrev pub FrontFits : ℕ → ℕ → Front → Type 0
FrontFits place bound Closed = ⊤
FrontFits place bound Torn = ⊤
FrontFits place bound (Whole size) = place + size + 6 < bound
