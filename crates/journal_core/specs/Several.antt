-- What reading several records by one call answers.
use Rattle.std.specs.Prelude.{◌≡◌, ℕ, ◌+◌, ◌<◌, ◌≤◌, List, [], ◌∷◌, ◌++◌, length, take, drop, Option, Some, None, Result, Ok, Err}
use Rattle.std.specs.Prelude.{IfNone, IfOk, IfSome, IsTrue, OnErr}
use Rattle.journal_core.specs.declared.bodies.Part.{Part}
use Rattle.journal_core.specs.declared.fault.OpenFault.{OpenFault}
use Rattle.journal_core.specs.Records.{AreBodies, From, records}
use Rattle.journal_core.specs.Standing.{Standing}
use Rattle.journal_core.specs.Reading.{NextIs}

-- the bytes of a part
abbrev pub part_of : List ℕ → Part → List ℕ
part_of bytes part = take part.size (drop part.at bytes)

-- From the gate at this place on stand records of these bodies with open gates, each whole, and the next gate behind
-- them.
pub record StandFrom (place : ℕ) (bodies : List (List ℕ)) (bytes : List ℕ) : Type 0 where
  pub sizes : AreBodies bodies
  pub gate : ℕ
  pub rest : List ℕ
  pub is : drop place bytes ≡ records bodies ++ gate ∷ rest

-- the journal behind records of these bodies
abbrev pub behind_all : List (List ℕ) → Standing → Standing
behind_all bodies journal = record journal { place = journal.place + length (records bodies) }

-- some bytes from the front of these on, one at least where there is one
pub record IsFrontOf (piece bytes : List ℕ) : Type 0 where
  pub size : ℕ
  pub some : 0 < size
  pub is : piece ≡ take size bytes

-- What the next records are, in a file of these bytes: bodies of which there is one at least, and which stand one behind
-- the other from the journal's place on. Otherwise the answer is the one for a single record.
abbrev pub NextAre : Standing → List ℕ → Standing → Result (Option (List (List ℕ))) OpenFault → Type 0
NextAre journal bytes after (Ok (Some bodies)) = (0 < length bodies) × StandFrom journal.place bodies bytes × (after ≡ behind_all bodies journal)
NextAre journal bytes after (Ok None) = NextIs journal bytes after (Ok None)
NextAre journal bytes after (Err fault) = NextIs journal bytes after (Err fault)

-- the first ones of these bodies are given, and the others, which are these, stand at the journal's new place
pub record TakesSome (bodies few : List (List ℕ)) (bytes : List ℕ) (after : Standing) : Type 0 where
  pub later : List (List ℕ)
  pub is : bodies ≡ few ++ later
  pub from : From after.place later bytes

-- the same, or there is none
abbrev pub TakesFew : List (List ℕ) → List ℕ → Standing → Option (List (List ℕ)) → Type 0
TakesFew bodies bytes after None = bodies ≡ []
TakesFew bodies bytes after (Some few) = TakesSome bodies few bytes after

-- Whatever the disk tells: after a fault the journal is as it was; where bodies are given there is one at least, and each
-- takes the journal on; where there is none, all were read. Its version and whether the disk failed stay.
abbrev pub GoesFew : Standing → Standing → Result (Option (List (List ℕ))) OpenFault → Type 0
GoesFew journal after next =
    OnErr next (after ≡ journal)
    × IfOk next (λ few. IfSome few (λ bodies. 0 < length bodies))
    × IfOk next (λ few. IfSome few (λ bodies. journal.place + length bodies ≤ after.place))
    × IfOk next (λ few. IfNone few (IsTrue after.all_read))
    × (after.failed ≡ journal.failed)
    × (after.version ≡ journal.version)
