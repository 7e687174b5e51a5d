-- What opening and reading a journal answer.
use Rattle.std.specs.Prelude.{◌≡◌, ◌≢◌, ℕ, ◌+◌, true, false, List, [], ◌∷◌, ◌++◌, length, drop, slice_index, Option, Some, None, Result, Ok, Err, ⊤}
use Rattle.world_traits.specs.Files.{Files, file_of}
use Rattle.world_traits.specs.Moments.{Clock, Since}
use Rattle.world_traits.specs.declared.disk.Side.{Side}
use Rattle.journal_core.specs.declared.version.Version.{Version}
use Rattle.journal_core.specs.declared.fault.Place9.{Place9}
use Rattle.journal_core.specs.declared.fault.Place9.TheVariants.{Absent, Header, Generations, Record}
use Rattle.journal_core.specs.declared.fault.OpenFault.{OpenFault}
use Rattle.journal_core.specs.declared.fault.OpenFault.TheVariants.{Disk, Memory, NotAJournal}
use Rattle.mail_base.specs.Bodies.{IsBody}
use Rattle.journal_core.specs.Records.{From, open_record}
use Rattle.journal_core.specs.Sides.{IsBegun, IsSetUp, HasWrongHeader}
use Rattle.journal_core.specs.Holds.{IsPresent}
use Rattle.journal_core.specs.Standing.{Standing}

-- some side has a wrong header
pub record AnyWrong (files : Files) : Type 0 where
  pub side : Side
  pub wrong : HasWrongHeader (file_of side files)

-- both sides are set up with one generation
pub record SameGenerations (files : Files) : Type 0 where
  pub generation : ℕ
  pub left_version : Version
  pub right_version : Version
  pub left : IsSetUp left_version generation files.left
  pub right : IsSetUp right_version generation files.right

-- why these files are no journal, as their heads tell it
abbrev pub IsNoJournal : Place9 → Files → Type 0
IsNoJournal Absent files = (side : Side) → IsBegun (file_of side files) → ⊥
IsNoJournal Header files = AnyWrong files
IsNoJournal Generations files = SameGenerations files
IsNoJournal (Record at) files = ⊥

-- the journal before its first record
abbrev pub at_first : Side → Version → ℕ → Standing
at_first side version generation = record {
  side = side;
  version = version;
  generation = generation;
  place = 13;
  all_read = false;
  failed = false;
}

-- the journal that these files are, before its first record
pub record IsAtFirst (journal : Standing) (files : Files) : Type 0 where
  pub present : IsPresent journal.side journal.version journal.generation files
  pub is : journal ≡ at_first journal.side journal.version journal.generation

-- the gate at the place is open, or closed
abbrev pub HasOpenGate : ℕ → List ℕ → Type 0
HasOpenGate place bytes = slice_index bytes place ≡ 1

abbrev pub HasClosedGate : ℕ → List ℕ → Type 0
HasClosedGate place bytes = slice_index bytes place ≢ 1

-- the record of this body stands whole behind its open gate at the place, and so does the next gate
pub record StandsAt (place : ℕ) (body bytes : List ℕ) : Type 0 where
  pub size : IsBody body
  pub gate : ℕ
  pub rest : List ℕ
  pub is : drop place bytes ≡ open_record body ++ gate ∷ rest

-- a record stands whole at the place
pub record HasRecord (place : ℕ) (bytes : List ℕ) : Type 0 where
  pub body : List ℕ
  pub stands : StandsAt place body bytes

-- the files are a journal, and its first record stands whole
pub record HasFirstRecord (files : Files) : Type 0 where
  pub side : Side
  pub version : Version
  pub generation : ℕ
  pub present : IsPresent side version generation files
  pub first : HasRecord 13 (file_of side files)

-- the gate at the place is open, and no record stands whole there
pub record IsTorn (place : ℕ) (bytes : List ℕ) : Type 0 where
  pub open_gate : HasOpenGate place bytes
  pub broken : (body : List ℕ) → StandsAt place body bytes → ⊥

-- the journal behind a record with a body of so many bytes
abbrev pub behind : ℕ → Standing → Standing
behind size journal = record journal { place = journal.place + 5 + size }

-- What the next record is, in a file of these bytes: the body of the one that stands at the journal's place, or none
-- where the gate is closed; or it is torn.
abbrev pub NextIs : Standing → List ℕ → Standing → Result (Option (List ℕ)) OpenFault → Type 0
NextIs journal bytes after (Ok None) = HasClosedGate journal.place bytes × (after ≡ record journal { all_read = true })
NextIs journal bytes after (Ok (Some body)) = StandsAt journal.place body bytes × (after ≡ behind (length body) journal)
NextIs journal bytes after (Err (NotAJournal (Record at))) = (at ≡ journal.place) × IsTorn journal.place bytes
NextIs journal bytes after (Err (NotAJournal Absent)) = ⊥
NextIs journal bytes after (Err (NotAJournal Header)) = ⊥
NextIs journal bytes after (Err (NotAJournal Generations)) = ⊥
NextIs journal bytes after (Err Disk) = ⊤
NextIs journal bytes after (Err Memory) = ⊤

-- the first of these bodies is given, and the others stand at the journal's new place
abbrev pub TakesFirst : List (List ℕ) → List ℕ → Standing → Option (List ℕ) → Type 0
TakesFirst [] bytes after next = next ≡ None
TakesFirst (body ∷ bodies) bytes after next = (next ≡ Some body) × From after.place bodies bytes

-- calls that only look: each added moment is the one of entry, and the files read as before
pub record OnlyLooks (old new : Clock) (seen seen_after : Files) : Type 0 where
  pub passing : Since (λ m. m ≡ old.now) (λ m n. n ≡ m) old new
  pub now : new.now ≡ old.now
  pub seen_same : seen_after ≡ seen
