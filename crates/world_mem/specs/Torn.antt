-- A file between two syncs, with what it reads as.
use Rattle.std.specs.Prelude.{◌≡◌, ℕ, List, length, reverse, Option, Vec}
use Rattle.std.specs.declared.alloc.Global.{Global}
use Rattle.world_traits.specs.Content.{content}
use Rattle.world_traits.specs.Files.{Range, Stored, MayHold, furthest, clean, touch, put}

pub record Torn : Type 0 where
  pub stored : Stored
  pub reads : List ℕ

-- a file all of whose bytes are synced
abbrev pub untouched : List ℕ → Torn
untouched bytes = record { stored = clean bytes; reads = bytes }

-- after a write of these bytes at a place
abbrev pub wrote : ℕ → List ℕ → Torn → Torn
wrote at bytes file = record { stored = touch at (length bytes) file.stored; reads = put at bytes file.reads }

-- after a sync
abbrev pub settled : Torn → Torn
settled file = untouched file.reads

-- what it reads as is an image of it, of the furthest length
pub record IsWhole (file : Torn) : Type 0 where
  pub lawful : MayHold file.stored file.reads
  pub full : length file.reads ≡ furthest file.stored.written (length file.stored.synced)

-- of its synced bytes, what it reads as if that differs, and the ranges written since, the oldest first
abbrev pub torn_file : List ℕ → Option (Vec ℕ Global) → List Range → Torn
torn_file synced later written = record {
  stored = record { synced = synced; written = reverse written };
  reads = content synced later;
}
