-- An action, or what stands behind all of them.
use Rattle.std.proofs.Common.{List, Some, ap, arith, length, refl, subst, sym, ◌∙◌, ◌≡◌}
use Rattle.std.specs.Prelude.{slice_get}
use Rattle.std.proofs.lemmas.Option.{slice_get_read}
use Rattle.std.proofs.lemmas.Result.{IfOk-weaker}
use Rattle.action_queue.specs.declared.queued.Queued.{Queued}
use Rattle.action_queue.proofs.Told.{action_at, behind_actions}
use Rattle.action_queue.proofs.book.Book.told_behind.Goals as goal

pub returns-then-count-left : goal.returns-then-count-left
returns-then-count-left c = c.told_last.ensures ∙ sym (behind_actions c.args.self.now.queue.items _ c.args.left _ (omega arith))

pub returns : goal.returns
returns c =
    let there =
    slice_get_read c.as_slice-queue.result.now (length c.as_slice-queue.result.now) c.args.left c.index-queue-left.result refl (omega (arith, ap length c.as_slice-queue.ensures))
    c.index-queue-left.is in
    let is : slice_get c.args.self.now.queue.items c.args.left ≡ Some c.index-queue-left.result =
    subst (λ (l : List Queued). slice_get l c.args.left ≡ Some c.index-queue-left.result) c.as_slice-queue.ensures there in
    IfOk-weaker c.told_action.result _ _
    (λ event e. e ∙ sym (action_at c.args.self.now.queue.items _ c.args.left c.index-queue-left.result is)) c.told_action.ensures
