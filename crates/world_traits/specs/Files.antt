-- A file between two syncs, and what a stop may leave of it.
use Rattle.std.specs.Prelude.{◌≡◌, ◌⊎◌, ℕ, ◌+◌, ◌≤◌, ◌<◌, max, List, [], ◌∷◌, ◌++◌, length, take, drop, replicate, slice_index, ◌-◌}
use Rattle.world_traits.specs.declared.disk.Side.{Side}
use Rattle.world_traits.specs.declared.disk.Side.TheVariants.{Left, Right}

-- a written range: its first place, and the place behind it
pub record Range : Type 0 where
  pub low : ℕ
  pub high : ℕ

-- the bytes of the last sync, and the ranges written since, the newest first
pub record Stored : Type 0 where
  pub synced : List ℕ
  pub written : List Range

-- the furthest end of the ranges, and no less than this length
abbrev pub furthest : List Range → ℕ → ℕ
furthest [] n = n
furthest (r ∷ rs) n = max r.high (furthest rs n)

-- the place lies in one of the ranges
abbrev pub Touched : List Range → ℕ → Type 0
Touched [] k = ⊥
Touched (r ∷ rs) k = ((r.low ≤ k) × (k < r.high)) ⊎ Touched rs k

-- A stop may leave these bytes: of any length from the synced one to the furthest end written, any bytes in a
-- written range and past the synced end, and the synced bytes at all other places.
pub record MayHold (file : Stored) (bytes : List ℕ) : Type 0 where
  pub no_shorter : length file.synced ≤ length bytes
  pub no_longer : length bytes ≤ furthest file.written (length file.synced)
  pub same : (k : ℕ) → k < length file.synced → (Touched file.written k → ⊥) → slice_index bytes k ≡ slice_index file.synced k

-- a file after a sync
abbrev pub clean : List ℕ → Stored
clean bytes = record { synced = bytes; written = [] }

-- a file after a write of so many bytes at a place
abbrev pub touch : ℕ → ℕ → Stored → Stored
touch at size file = record file { written = record { low = at; high = at + size } ∷ file.written }

-- bytes put at a place; a gap before them reads as zeros
abbrev pub put : ℕ → List ℕ → List ℕ → List ℕ
put at bytes old = take at old ++ replicate (at - length old) 0 ++ bytes ++ drop (at + length bytes) old

-- the bytes of the two files
pub record Files : Type 0 where
  pub left : List ℕ
  pub right : List ℕ

-- the bytes on one side
abbrev pub file_of : Side → Files → List ℕ
file_of Left files = files.left
file_of Right files = files.right

-- the files with other bytes on one side
abbrev pub with_file : Side → List ℕ → Files → Files
with_file Left bytes files = record files { left = bytes }
with_file Right bytes files = record files { right = bytes }

-- the side that this one isn't
abbrev pub other : Side → Side
other Left = Right
other Right = Left
