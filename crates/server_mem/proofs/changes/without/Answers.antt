use Rattle.std.proofs.Common.{[], ◌∷◌, ◌++◌, ◌∙◌, ap}
use Rattle.imap_model.specs.declared.server.Message.{Message}
use Rattle.server_mem.proofs.Leaving.{passes, stays_out}
use Rattle.server_mem.proofs.changes.without.Goals as goal
use Rattle.server_mem.proofs.changes.without.Goals.{then-ne+in_ok-copy+in_ok-push, else-ne}

pub loop-message-preserved : goal.loop-message-preserved
loop-message-preserved c = elim c.if-ne.branch [
  | then-ne+in_ok-copy+in_ok-push w ↦ w.left-is ∙ w.in_ok-push.ensures.done ∙ ap (λ (x : Message). c.loop-message.left ++ x ∷ []) w.in_ok-copy.ensures
      ∙ passes c.args.uid c.loop-message.message-index c.args.messages.now c.loop-message.left c.message-item.result
      c.loop-message-test.true c.message-item.is w.if-ne.ensures c.loop-message.invariant
  | else-ne w ↦ w.left-is ∙ stays_out c.args.uid c.loop-message.message-index c.args.messages.now c.loop-message.left c.message-item.result
      c.loop-message-test.true c.message-item.is w.if-ne.ensures c.loop-message.invariant
]
