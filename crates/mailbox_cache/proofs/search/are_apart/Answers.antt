-- One range less is left, from which the rows are apart.
use Rattle.std.proofs.Common.{add-one, refl}
use Rattle.mailbox_cache.proofs.Vanishing.{apart_here, apart_end}
use Rattle.mailbox_cache.proofs.search.are_apart.Goals as goal

pub loop-range-preserved : goal.loop-range-preserved
loop-range-preserved c = λ others.
    c.loop-range.invariant (apart_here c.args.ranges.now c.loop-range.range-index _ c.args.rows.now c.loop-range-test.true
    (c.if-not-is_apart.ensures refl) (rw add-one at others))

pub returns : goal.returns
returns c = λ yes. c.loop-range.invariant (apart_end c.args.ranges.now c.loop-range.range-index c.args.rows.now c.loop-range-test.false)
