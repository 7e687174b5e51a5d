-- The tries of the action that is due, where some were taken back, and then the pending intent.
use Rattle.std.proofs.Common.{◌∙◌, ◌-◌, suc, sym, arith}
use Rattle.action_queue.specs.Queues.{due, tries_due}
use Rattle.action_queue.specs.Restating.{intent_events}
use Rattle.action_queue.proofs.Told.{withdraw_there, withdrawn_later, withdrawn_none}
use Rattle.action_queue.proofs.book.Book.told_last.Goals as goal

pub returns-then-tries-eq0 : goal.returns-then-tries-eq0
returns-then-tries-eq0 c =
    let q = c.args.self.now.queue.items in
    c.told_intent.ensures
    ∙ sym (withdrawn_none (suc (due q)) (tries_due q) c.args.left (intent_events c.args.self.now.pending q)
    (sym c.tries_due-tries.ensures ∙ c.if-tries-eq0.true))

pub returns-then-left-eq0 : goal.returns-then-left-eq0
returns-then-left-eq0 c =
    let q = c.args.self.now.queue.items in
    withdraw_there _ (suc (due q)) _ (tries_due q) c.args.left (intent_events c.args.self.now.pending q)
    (omega (arith, c.in_ok-id.ensures.value)) c.tries_due-tries.ensures (omega arith) c.if-left-eq0.true

pub returns : goal.returns
returns c =
    let q = c.args.self.now.queue.items in
    c.told_intent-2.ensures
    ∙ sym (withdrawn_later (suc (due q)) (tries_due q) c.args.left (intent_events c.args.self.now.pending q) (omega arith) (omega arith))
