use Rattle.action_queue.specs.Book.{meaning}
use Rattle.local_view.specs.Touching.{seen_so_far}
use Rattle.local_view.proofs.Listed.{is_view}
use Rattle.local_view.proofs.listing.view.Goals as goal

pub returns : goal.returns
returns c =
    let book = c.args.book.now in
    is_view (meaning book) c.args.name.now (seen_so_far book.boxes c.in_ok-touched.touched) c.new-rows.result.items c.put_cached.new.rows.items
    c.put_dummies.new.rows.items c.new-rows.ensures.items c.in_ok-put_cached.ensures (c.in_ok-put_dummies.ensures book.boxes) c.in_ok-touched.ensures
