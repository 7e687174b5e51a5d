-- One more action that ended stands behind the others, which are all settled.
use Rattle.std.proofs.Common.{◌∙◌, ap, length, length-append, arith, ◌≡◌, None}
use Rattle.action_queue.specs.Queues.{Entries, due_action}
use Rattle.action_queue.proofs.Queueing.{due_within, none_due, due_ended, order_ended}
use Rattle.action_queue.proofs.queue.Queue.add_ended.Goals as goal

pub invariant_of-self : goal.invariant_of-self
invariant_of-self c =
    let same = ap (λ (e : Entries). length e.items) c.self.view_is in
    let items = c.self.inside.items.items in
    let none : due_action items ≡ None = ap (λ (e : Entries). due_action e.items) c.self.view_is ∙ c.requires.all in
    let all = none_due items none in
    rw c.push_reserved.ensures.items (
      omega (arith, c.self.invariant.0, all, due_ended c.args.action c.args.outcome items all),
      order_ended c.args.action c.args.outcome items all c.self.invariant.1,
      simp length-append (omega (arith, same, c.requires.few)),
    )

pub overflow_add-self : goal.overflow_add-self
overflow_add-self c =
    let same = ap (λ (e : Entries). length e.items) c.self.view_is in
    omega (arith, same, c.requires.few, c.self.invariant.0, due_within c.self.inside.items.items)
