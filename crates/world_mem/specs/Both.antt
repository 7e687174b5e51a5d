-- The two files of a disk, each between two syncs and with what it reads as.
use Rattle.world_traits.specs.Files.{Files}
use Rattle.world_traits.specs.Moments.{Moment}
use Rattle.world_traits.specs.declared.disk.Side.{Side}
use Rattle.world_traits.specs.declared.disk.Side.TheVariants.{Left, Right}
use Rattle.world_mem.specs.Torn.{Torn}

pub record Both : Type 0 where
  pub left : Torn
  pub right : Torn

-- the file on one side
abbrev pub torn_of : Side → Both → Torn
torn_of Left files = files.left
torn_of Right files = files.right

-- the files with another on one side
abbrev pub with_torn : Side → Torn → Both → Both
with_torn Left file files = record files { left = file }
with_torn Right file files = record files { right = file }

-- the files of a moment, where this is what they read as
abbrev pub torn_at : Moment → Files → Both
torn_at m seen = record {
  left = record { stored = m.left; reads = seen.left };
  right = record { stored = m.right; reads = seen.right };
}
