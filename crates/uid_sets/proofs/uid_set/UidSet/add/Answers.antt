-- The last range begins no later.
use Rattle.std.proofs.Common.{◌≡◌, ◌≤◌, ◌+◌, ◌-◌, length, arith}
use Rattle.uid_sets.specs.Rising.{last_low}
use Rattle.uid_sets.proofs.Queries.{last_low-last, last_low-none}
use Rattle.uid_sets.proofs.uid_set.UidSet.add.Goals as goal
use Rattle.uid_sets.proofs.uid_set.UidSet.add.Goals.{then-count-eq0-via-then-count-eq0, then-count-eq0-via-else-count-eq0+then-index-range}

pub join-requires-clause-rising : goal.join-requires-clause-rising
join-requires-clause-rising c =
    let ranges = c.self.inside.ranges.items in
    elim c.then-count-eq0.branch as (λ _. last_low ranges ≤ c.number.result) [
      | then-count-eq0-via-then-count-eq0 w ↦
          let len : length ranges ≡ 0 = omega arith in
          let low = last_low-none ranges len in omega arith
      | then-count-eq0-via-else-count-eq0+then-index-range w ↦
          let len : length ranges ≡ (c.len-count.result - 1) + 1 = omega arith in
          let low = last_low-last ranges (c.len-count.result - 1) w.index.result.now len w.index.ensures in
          omega arith
    ]
