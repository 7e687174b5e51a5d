-- More than one member, or none.
use Rattle.std.proofs.Common.{arith}
use Rattle.uid_sets.proofs.Queries.{only_length, only_ends}
use Rattle.uid_sets.proofs.uid_set.UidSet.only.Goals as goal

pub returns-then-len-ne1-clause-none : goal.returns-then-len-ne1-clause-none
returns-then-len-ne1-clause-none c = λ uid only.
    let one = only_length c.self.inside.ranges.items uid c.self.invariant (rw (← c.self.view_is) at only) in absurd (omega arith)

pub returns-then-range-clause-none : goal.returns-then-range-clause-none
returns-then-range-clause-none c = λ uid only.
    let ends = only_ends c.self.inside.ranges.items c.index-range.result.now uid c.self.invariant (rw (← c.self.view_is) at only)
    (omega arith) c.index-range.ensures in absurd (omega arith)
