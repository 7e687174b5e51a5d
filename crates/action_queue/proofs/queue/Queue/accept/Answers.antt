-- One more action stands behind the others, unsettled.
use Rattle.std.proofs.Common.{◌∙◌, sym, ap, length, length-append, arith}
use Rattle.action_queue.specs.Queues.{Entries}
use Rattle.action_queue.proofs.Queueing.{due_push, order_push}
use Rattle.action_queue.proofs.queue.Queue.accept.Goals as goal

pub invariant_of-self : goal.invariant_of-self
invariant_of-self c =
    let same = ap (λ (e : Entries). length e.items) c.self.view_is in
    let items = c.self.inside.items.items in
    let action = c.args.action in
    rw c.push_reserved.ensures.items (
      c.self.invariant.0 ∙ sym (due_push action items),
      order_push action items c.self.invariant.1,
      simp length-append (omega (arith, same, c.requires.few)),
    )
