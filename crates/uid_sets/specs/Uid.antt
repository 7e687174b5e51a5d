-- What a range of UIDs holds (RFC 9051, section 9, seq-range).
use Rattle.std.specs.Prelude.{ℕ, ◌≤◌}

-- the UID is one of the range, whose ends belong to it
pub record IsWithin (low high uid : ℕ) : Type 0 where
  pub above : low ≤ uid
  pub below : uid ≤ high
