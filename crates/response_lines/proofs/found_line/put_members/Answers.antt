use Rattle.response_lines.proofs.WriteSteps.{next_range}
use Rattle.response_lines.proofs.found_line.put_members.Goals as goal

pub loop-range-preserved : goal.loop-range-preserved
loop-range-preserved c =
    next_range c.loop-range.range-index c.args.ranges.now _ c.args.out.now.items _ _ c.loop-range-test.true c.loop-range.invariant c.in_ok-put_range.ensures
