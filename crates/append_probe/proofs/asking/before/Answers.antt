-- The mark stands here, or the walk goes on.
use Rattle.append_probe.proofs.Fronts.{found_here, passed_here}
use Rattle.append_probe.proofs.asking.before.Goals as goal

pub returns-then-starts_with : goal.returns-then-starts_with
returns-then-starts_with c =
    found_here c.args.mark.now c.args.bytes.now c.loop-at.at c.starts_with.result c.loop-at-test.true c.starts_with.ensures.value
    c.if-starts_with.true
    c.loop-at.invariant

pub loop-at-preserved : goal.loop-at-preserved
loop-at-preserved c =
    passed_here c.args.mark.now c.args.bytes.now c.loop-at.at c.starts_with.result c.loop-at-test.true c.starts_with.ensures.value
    c.if-starts_with.false
    c.loop-at.invariant
