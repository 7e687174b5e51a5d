-- What a disk in memory has become by its calls.
use Rattle.std.specs.Prelude.{ℕ, List, [], ◌∷◌}
use Rattle.world_traits.specs.Files.{Files, clean, put, file_of, with_file}
use Rattle.world_traits.specs.Nobody.{nobody}
use Rattle.world_traits.specs.Moments.{Clock, tick}
use Rattle.world_traits.specs.Calls.{written, settled}
use Rattle.world_traits.specs.declared.call.Did.{Did}
use Rattle.world_traits.specs.declared.call.Did.TheVariants.{Wrote, Synced}

-- the moments so far, and what the files read as
pub record State : Type 0 where
  pub clock : Clock
  pub files : Files

-- at first both files are on the disk, and nothing came before
abbrev pub start : List ℕ → List ℕ → State
start left right = record {
  clock = record { now = record { left = clean left; right = clean right; outside = nobody }; past = [] };
  files = record { left = left; right = right };
}

-- one call on
abbrev pub step : Did → State → State
step (Wrote side at bytes) s = record {
  clock = tick s.clock (written side at bytes.items s.clock.now);
  files = with_file side (put at bytes.items (file_of side s.files)) s.files;
}
step (Synced side) s = record {
  clock = tick s.clock (settled side (file_of side s.files) s.clock.now);
  files = s.files;
}

-- after these calls, the first of them first
abbrev pub replay : List Did → State → State
replay [] s = s
replay (call ∷ calls) s = replay calls (step call s)
