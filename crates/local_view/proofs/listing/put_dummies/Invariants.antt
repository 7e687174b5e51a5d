-- The rows so far, and those of the actions that are left, are all rows.
use Rattle.std.proofs.Common.{◌≡◌, ◌++◌, drop, suc, List}
use Rattle.action_queue.specs.declared.book.Known.{Known}
use Rattle.local_view.specs.Listing.{listed_dummies}
use Rattle.local_view.specs.Touching.{seen_so_far}
use Rattle.local_view.proofs.listing.put_dummies.Given as goal

abbrev pub invariant-loop-at : goal.invariant-loop-at
invariant-loop-at l = (boxes : List Known) →
    l.rows.items ++ listed_dummies (seen_so_far boxes l.touched) l.name (suc l.at) (drop l.at l.queue.items)
    ≡ l.fn.rows.items ++ listed_dummies (seen_so_far boxes l.touched) l.name 1 l.queue.items
