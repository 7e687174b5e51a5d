-- The bodies that are left.
use Rattle.std.proofs.Common.{◌≡◌, length}
use Rattle.body_cache.specs.Dates.{date_bodies}
use Rattle.body_cache.proofs.dates.next_date.Given as goal

abbrev pub invariant-loop-field : goal.invariant-loop-field
invariant-loop-field l = date_bodies l.left ≡ date_bodies l.fn.left

abbrev pub decreases-loop-field : goal.decreases-loop-field
decreases-loop-field l = length l.left
