use Rattle.response_lines.proofs.WriteSteps.{next_number}
use Rattle.response_lines.proofs.found_line.put_count.Goals as goal

pub loop-step-preserved : goal.loop-step-preserved
loop-step-preserved c =
    next_number c.loop-step.step c.args.least c.args.out.now.items _ _ _ c.loop-step.invariant c.in_ok-put.ensures c.in_ok-put_number.ensures
