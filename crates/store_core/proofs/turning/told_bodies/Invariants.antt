use Rattle.std.proofs.Common.{◌-◌, ◌^◌, length, take, vec_len}
use Rattle.action_queue.specs.Book.{meaning}
use Rattle.action_queue.specs.Telling.{pieces}
use Rattle.store_core.specs.Anew.{SpellPieces}
use Rattle.store_core.proofs.turning.told_bodies.Given as goal

abbrev pub invariant-loop-bodies : goal.invariant-loop-bodies
invariant-loop-bodies l = SpellPieces (take (length l.bodies.items) (pieces (meaning l.book))) l.bodies.items

abbrev pub decreases-loop-bodies : goal.decreases-loop-bodies
decreases-loop-bodies l = 2 ^ 64 - vec_len l.bodies
