-- Which bytes of a file a stop may lose: those in a range written since the last sync, and those past the synced end.
use Rattle.std.specs.Prelude.{ℕ, zero, suc, Bool, cond, ◌&&◌, ◌||◌, leb, ltb, length}
use Rattle.std.specs.List.{list_any}
use Rattle.world_traits.specs.Files.{Range, Stored}

-- whether the place lies in the range
abbrev pub covers : ℕ → Range → Bool
covers k r = leb r.low k && ltb k r.high

-- whether the byte at the place is unsynced
abbrev pub is_unsynced : Stored → ℕ → Bool
is_unsynced file k = leb (length file.synced) k || list_any (covers k) file.written

-- how many unsynced bytes stand before the place
abbrev pub unsynced_before : Stored → ℕ → ℕ
unsynced_before file zero = 0
unsynced_before file (suc k) = cond (is_unsynced file k) (suc (unsynced_before file k)) (unsynced_before file k)
