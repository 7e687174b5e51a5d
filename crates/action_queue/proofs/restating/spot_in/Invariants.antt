-- What stands at the place stands so far behind in the pieces of the mailboxes that are left.
use Rattle.std.proofs.Common.{◌≡◌, List, ◌++◌, drop}
use Rattle.std.specs.Prelude.{slice_get}
use Rattle.action_queue.specs.Telling.{Piece, box_pieces}
use Rattle.action_queue.proofs.restating.spot_in.Given as goal

abbrev pub invariant-loop-known : goal.invariant-loop-known
invariant-loop-known l = (behind : List Piece) →
    slice_get (box_pieces l.boxes ++ behind) l.fn.place ≡ slice_get (box_pieces (drop l.known-index l.boxes) ++ behind) l.left
