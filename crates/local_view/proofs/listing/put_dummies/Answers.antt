use Rattle.std.proofs.Common.{◌≡◌, ◌<◌, ◌≤◌, ◌++◌, List, length, get_or, subst}
use Rattle.action_queue.specs.declared.queued.Queued.{Queued}
use Rattle.local_view.specs.Listing.{listed_dummies}
use Rattle.local_view.specs.Touching.{seen_so_far}
use Rattle.local_view.proofs.Listed.{next_dummy, all_dummies}
use Rattle.local_view.proofs.listing.put_dummies.Goals as goal

pub loop-at-preserved : goal.loop-at-preserved
loop-at-preserved c = λ boxes.
    let sights = seen_so_far boxes c.args.touched.now in
    let queue = c.args.queue.now.items in
    next_dummy sights c.args.name.now c.loop-at.at queue (c.args.rows.now.items ++ listed_dummies sights c.args.name.now 1 queue) c.in-Some.id
    c.queued-item.result c.loop-at.rows.items c.put_made.new.rows.items c.in-Some.ensures.value
    (subst (λ (qs : List Queued). c.loop-at.at < length qs) c.as_slice-queued-items.ensures c.loop-at-test.true)
    (subst (λ (qs : List Queued). c.queued-item.result ≡ get_or qs c.loop-at.at c.queued-item.result) c.as_slice-queued-items.ensures c.queued-item.is)
    (c.in_ok-put_made.ensures boxes) (c.loop-at.invariant boxes)

pub returns : goal.returns
returns c = λ boxes.
    let sights = seen_so_far boxes c.args.touched.now in
    let queue = c.args.queue.now.items in
    all_dummies sights c.args.name.now c.loop-at.at queue (c.args.rows.now.items ++ listed_dummies sights c.args.name.now 1 queue) c.loop-at.rows.items
    (subst (λ (qs : List Queued). length qs ≤ c.loop-at.at) c.as_slice-queued-items.ensures c.loop-at-test.false) (c.loop-at.invariant boxes)
