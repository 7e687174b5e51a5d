-- What the actions that are left make of what is seen so far is what is seen at last.
use Rattle.std.proofs.Common.{drop, suc}
use Rattle.action_queue.specs.Book.{meaning}
use Rattle.local_view.specs.Sights.{acted_all, seen}
use Rattle.local_view.specs.Touching.{seen_so_far, AreSame}
use Rattle.local_view.proofs.acting.touched_by.Given as goal

abbrev pub invariant-loop-at : goal.invariant-loop-at
invariant-loop-at l = AreSame
    (acted_all (meaning l.book) (suc l.at) (drop l.at l.book.queue.items) (seen_so_far l.book.boxes l.touched))
    (seen (meaning l.book))
