-- Where a fault of a frame may stand.
use Rattle.std.specs.Prelude.{ℕ, ◌≤◌}
use Rattle.imap_response.specs.declared.fault.ResponseFault.{ResponseFault}
use Rattle.imap_response.specs.declared.fault.ResponseFault.TheVariants as faults

-- the place is one of a frame of so many bytes, or its end
abbrev pub IsPlaced : ℕ → ResponseFault → Type 0
IsPlaced size (faults.BadForm at) = at ≤ size
IsPlaced size (faults.TooLarge limit number) = Unit {0}
IsPlaced size faults.Memory = Unit {0}
