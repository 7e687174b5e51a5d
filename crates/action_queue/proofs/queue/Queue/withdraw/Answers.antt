-- The action at the number that is kept is the one that is due.
use Rattle.std.proofs.Common.{◌<◌, sym, ap, length, arith}
use Rattle.action_queue.specs.Queues.{Entries, due, tried, change_first}
use Rattle.action_queue.proofs.Queueing.{set_first, due_try, order_tried, length_change}
use Rattle.action_queue.proofs.queue.Queue.withdraw.Goals as goal

pub invariant_of-self : goal.invariant_of-self
invariant_of-self c =
    let items = c.self.inside.items.items in
    let same = ap (λ (e : Entries). e.items) c.self.view_is in
    let few : due items < length items = rw (sym same) at c.requires in
    let there = rw c.self.invariant.0 at c.index_mut-queued.ensures.value in
    let changed = set_first (tried c.args.tries) items c.index_mut-queued.result.now few there in
    rw (c.self.invariant.0, changed) (
      sym (due_try c.args.tries items),
      order_tried c.args.tries items c.self.invariant.1,
      omega (arith, length_change (tried c.args.tries) items, c.self.invariant.2),
    )

pub returns : goal.returns
returns c =
    let items = c.self.inside.items.items in
    let same = ap (λ (e : Entries). e.items) c.self.view_is in
    let few : due items < length items = rw (sym same) at c.requires in
    let there = rw c.self.invariant.0 at c.index_mut-queued.ensures.value in
    let changed = set_first (tried c.args.tries) items c.index_mut-queued.result.now few there in
    rw (c.self.invariant.0, changed) (ap (change_first (tried c.args.tries)) same)
