-- A side of the journal: the head gate, a magic word of 8 bytes, a generation of 4, and then the records.
use Rattle.std.specs.Prelude.{◌≡◌, ℕ, ◌≤◌, ◌<◌, ◌^◌, List, ◌∷◌, ◌++◌, length, slice_index, codes}
use Rattle.std.specs.Int.{w32, to_be_bytes}
use Rattle.journal_core.specs.declared.version.Version.{Version}
use Rattle.journal_core.specs.declared.version.Version.TheVariants.{First, Second}

-- the word that tells the version
abbrev pub magic_of : Version → List ℕ
magic_of First = codes "ODMAILJ1"
magic_of Second = codes "ODMAILJ2"

-- the version that is written; a side of another one is only read
abbrev pub version_written : Version
version_written = Second

-- the bytes from 1 to 12
abbrev pub header_of : Version → ℕ → List ℕ
header_of version generation = magic_of version ++ to_be_bytes w32 generation

-- the same behind an open head gate
abbrev pub head_of : Version → ℕ → List ℕ
head_of version generation = 1 ∷ header_of version generation

-- A generation is a number from 1 that four bytes hold.
pub record IsGeneration (generation : ℕ) : Type 0 where
  pub some : 0 < generation
  pub fits : generation < 2 ^ 32

-- The side is set up in this version and generation: it has at least 14 bytes, and the first 13 are its head.
pub record IsSetUp (version : Version) (generation : ℕ) (bytes : List ℕ) : Type 0 where
  pub number : IsGeneration generation
  pub gate : ℕ
  pub rest : List ℕ
  pub is : bytes ≡ head_of version generation ++ gate ∷ rest

-- the side has at least 14 bytes and an open head gate
pub record IsBegun (bytes : List ℕ) : Type 0 where
  pub long : 14 ≤ length bytes
  pub open_gate : slice_index bytes 0 ≡ 1

-- and then the bytes from 1 to 12 are wrong
pub record HasWrongHeader (bytes : List ℕ) : Type 0 where
  pub begun : IsBegun bytes
  pub wrong : (version : Version) (generation : ℕ) → IsSetUp version generation bytes → ⊥
