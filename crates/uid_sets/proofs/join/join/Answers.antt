-- The two returns of `join`: the last range made wider, and a range more.
use Rattle.std.proofs.Common.{◌≡◌, ◌<◌, ◌+◌, ◌-◌, ◌++◌, ◌∷◌, [], length, arith, set}
use Rattle.uid_sets.specs.Rising.{floor_behind}
use Rattle.uid_sets.proofs.Joins.{Joins, joins_wider, joins_behind, floor_behind-last, floor_behind-none}
use Rattle.uid_sets.proofs.join.join.Goals as goal
use Rattle.uid_sets.proofs.join.join.Goals.{then-count-gt0+else-range-last, else-count-gt0}

wider : (c : goal.After-ranges-1) → Joins c.args.ranges.now.items c.args.range
    (set c.args.ranges.now.items (c.len-count.result - 1) (record { low = c.index-last.result.now.low; high = c.max.result }))
wider c =
    let count : length c.args.ranges.now.items ≡ (c.len-count.result - 1) + 1 = omega arith in
    joins_wider c.args.ranges.now.items
    (c.len-count.result - 1) c.index-last.result.now c.args.range c.max.result count c.index-last.ensures c.requires.canonical
    c.requires.range c.requires.rising c.if-range-last.true c.max.ensures

pub returns-then-range-last-clause-canonical : goal.returns-then-range-last-clause-canonical
returns-then-range-last-clause-canonical c = (wider c).canonical

pub returns-then-range-last-clause-members : goal.returns-then-range-last-clause-members
returns-then-range-last-clause-members c = (wider c).members

pub returns-then-range-last-clause-rising : goal.returns-then-range-last-clause-rising
returns-then-range-last-clause-rising c = (wider c).rising

behind : (c : goal.In_ok-push) → Joins c.args.ranges.now.items c.args.range (c.args.ranges.now.items ++ c.args.range ∷ [])
behind c =
    let free : floor_behind 0 c.args.ranges.now.items < c.args.range.low =
    elim c.if-count-gt0.branch as (λ _. floor_behind 0 c.args.ranges.now.items < c.args.range.low) [
      | then-count-gt0+else-range-last w ↦
          let count : length c.args.ranges.now.items ≡ (c.len-count.result - 1) + 1 = omega arith in
          let last = floor_behind-last c.args.ranges.now.items (c.len-count.result - 1) w.index-last.result.now count w.index-last.ensures in
          omega arith
      | else-count-gt0 w ↦
          let count : length c.args.ranges.now.items ≡ 0 = omega arith in
          let none = floor_behind-none c.args.ranges.now.items count in
          omega (arith, c.requires.range.above)
    ] in
    joins_behind c.args.ranges.now.items c.args.range c.requires.canonical c.requires.range free

pub returns-clause-canonical : goal.returns-clause-canonical
returns-clause-canonical c = rw c.in_ok-push.ensures.items (behind c).canonical

pub returns-clause-members : goal.returns-clause-members
returns-clause-members c = rw c.in_ok-push.ensures.items (behind c).members

pub returns-clause-rising : goal.returns-clause-rising
returns-clause-rising c = rw c.in_ok-push.ensures.items (behind c).rising
