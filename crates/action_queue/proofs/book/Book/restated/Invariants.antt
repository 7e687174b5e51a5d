-- What the events so far and those of the pieces that are left tell is the whole.
use Rattle.std.proofs.Common.{◌-◌, ◌^◌, List, ◌++◌, drop, length, vec_len}
use Rattle.action_queue.specs.Book.{meaning}
use Rattle.action_queue.specs.Telling.{AreTold, pieces}
use Rattle.action_queue.specs.declared.event.Event.{Event}
use Rattle.action_queue.proofs.book.Book.restated.Given as goal

abbrev pub invariant-loop-list : goal.invariant-loop-list
invariant-loop-list l = (later : List Event) → AreTold (drop (length l.list.items) (pieces (meaning l.self))) later →
    AreTold (pieces (meaning l.self)) (l.list.items ++ later)

abbrev pub decreases-loop-list : goal.decreases-loop-list
decreases-loop-list l = 2 ^ 64 - vec_len l.list
