-- What the calls of a disk do to its moments and to what its files read as.
use Rattle.std.specs.Prelude.{◌≡◌, ◌⊎◌, ℕ, ◌<◌, ◌-◌, ◌^◌, List, length, Result, OnOk, OnErr}
use Rattle.world_traits.specs.Files.{Files, clean, touch, put, file_of, with_file}
use Rattle.world_traits.specs.Moments.{Moment, Clock, tick, stored, with_stored}
use Rattle.world_traits.specs.declared.disk.Side.{Side}

-- The count of faults rose, or it stands at its last value, 2^64 - 1, and can't rise.
abbrev pub Rose : ℕ → ℕ → Type 0
Rose old new = new < 2 ^ 64 - 1 → old < new

-- the moment stays, told once more or not
abbrev pub Stays : Clock → Clock → Type 0
Stays old new = (new ≡ old) ⊎ (new ≡ tick old old.now)

-- the moment stays, or becomes this one
abbrev pub MayBecome : Moment → Clock → Clock → Type 0
MayBecome m old new = Stays old new ⊎ (new ≡ tick old m)

-- the moment that a write of these bytes leaves
abbrev pub written : Side → ℕ → List ℕ → Moment → Moment
written side at bytes m = with_stored side (touch at (length bytes) (stored side m)) m

-- the moment that a sync leaves, where the file reads as these bytes
abbrev pub settled : Side → List ℕ → Moment → Moment
settled side bytes m = with_stored side (clean bytes) m

-- a call that only looks: the moment stays, and the files read as before
pub record Looked (old new : Clock) (seen seen_after : Files) : Type 0 where
  pub moment : Stays old new
  pub seen_same : seen_after ≡ seen

-- A write: the moment becomes the one with the range written, and the file reads with the bytes put in. After an
-- error the moment is that one or the one before.
pub record Wrote {T E : Type 0} (side : Side) (at : ℕ) (bytes : List ℕ) (old new : Clock) (seen seen_after : Files) (result : Result T E) : Type 0 where
  pub moment : MayBecome (written side at bytes old.now) old new
  pub done : OnOk result (new ≡ tick old (written side at bytes old.now))
  pub seen_now : OnOk result (seen_after ≡ with_file side (put at bytes (file_of side seen)) seen)

-- A sync: what the file reads as becomes its synced bytes, and no range is left. After an error the moment is the one
-- before.
pub record Synced {T E : Type 0} (side : Side) (old new : Clock) (seen seen_after : Files) (result : Result T E) : Type 0 where
  pub done : OnOk result (new ≡ tick old (settled side (file_of side seen) old.now))
  pub seen_same : OnOk result (seen_after ≡ seen)
  pub failed : OnErr result (Stays old new)
