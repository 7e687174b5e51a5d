-- The number that is kept is that of the settled actions, which are no more than there are.
use Rattle.std.proofs.Common.{length, ap, arith}
use Rattle.action_queue.specs.Queues.{Entries}
use Rattle.action_queue.proofs.Queueing.{due_within}
use Rattle.action_queue.proofs.queue.Queue.settled.Goals as goal

pub returns-clause-within : goal.returns-clause-within
returns-clause-within c =
    let same = ap (λ (e : Entries). length e.items) c.self.view_is in
    omega (arith, same, c.self.invariant.0, due_within c.self.inside.items.items)

pub returns-clause-most : goal.returns-clause-most
returns-clause-most c = omega (arith, c.self.invariant.0, c.self.invariant.2, due_within c.self.inside.items.items)
