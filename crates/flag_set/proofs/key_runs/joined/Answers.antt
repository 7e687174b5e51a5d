use Rattle.std.proofs.Common.{◌++◌, ap, ◌∙◌}
use Rattle.flag_set.proofs.Texts.{step_first, step_more}
use Rattle.flag_set.proofs.key_runs.joined.Goals as goal
use Rattle.flag_set.proofs.key_runs.joined.Goals.{then-at-gt0+in_ok-push, else-at-gt0}

pub loop-at-preserved : goal.loop-at-preserved
loop-at-preserved c =
    let written = c.in_ok-extend_from_slice.ensures.items ∙ ap (λ l. c.if-at-gt0.text.items ++ l) c.spelling.ensures in
    elim c.if-at-gt0.branch [
      | then-at-gt0+in_ok-push w ↦ step_more _ _ _ _ _ _ w.if-at-gt0.true (c.loop-at-test.true) c.index-keys-at.is c.loop-at.invariant
          (ap (λ v. v.items) w.text-is ∙ w.in_ok-push.ensures.items) written
      | else-at-gt0 w ↦ step_first _ _ _ _ _ w.if-at-gt0.false (c.loop-at-test.true) c.index-keys-at.is
          (ap (λ v. v.items) w.text-is ∙ c.loop-at.invariant) written
    ]
