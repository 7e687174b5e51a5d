-- The rows so far are those that are left.
use Rattle.std.proofs.Common.{◌≡◌, ◌++◌, take}
use Rattle.std.specs.List.{flat_map}
use Rattle.local_view.specs.Touching.{left_row}
use Rattle.local_view.proofs.listing.put_rows.Given as goal

abbrev pub invariant-loop-uid : goal.invariant-loop-uid
invariant-loop-uid l = l.rows.items ≡ l.fn.rows.items ++ flat_map (left_row l.touched l.at) (take l.uid-index l.cached)
