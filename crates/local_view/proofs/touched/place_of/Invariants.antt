-- The place stands in what is left.
use Rattle.std.proofs.Common.{◌≡◌, drop}
use Rattle.local_view.specs.Touching.{place_from}
use Rattle.local_view.proofs.touched.place_of.Given as goal

abbrev pub invariant-loop-at : goal.invariant-loop-at
invariant-loop-at l = place_from l.at l.name (drop l.at l.boxes) ≡ place_from 0 l.name l.boxes
