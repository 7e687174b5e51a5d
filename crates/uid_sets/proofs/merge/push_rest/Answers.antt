-- Before a hole what is kept is put; behind it the range goes on.
use Rattle.std.proofs.Common.{inl, ◌+◌, ◌<◌, ◌≤◌, ◌∷◌, [], ◌++◌, length, get_or, arith}
use Rattle.uid_sets.specs.Rising.{floor_behind}
use Rattle.uid_sets.specs.UidSet.{Member, IsRange}
use Rattle.uid_sets.specs.declared.uid.UidRange.{UidRange}
use Rattle.uid_sets.proofs.Ranges.{Pushes, pushes, gap, drop_here, RisesAbove-weaker}
use Rattle.uid_sets.proofs.Differences.{up_to_hole, up_to_end}
use Rattle.uid_sets.proofs.merge.push_rest.Goals as goal
use Rattle.uid_sets.proofs.merge.push_rest.Goals.{else-loop-hole-test, then-loop-hole-test+then-range-hole}

abbrev none : UidRange
none = record { low = 0; high = 0 }

pub returns-then-range-hole-2-clause-members : goal.returns-then-range-hole-2-clause-members
returns-then-range-hole-2-clause-members c = λ uid.
    let taken = c.args.taken.now in
    let before = c.loop-hole.invariant in
    let hole = get_or taken c.loop-hole.hole-index none in
    let here = drop_here taken c.loop-hole.hole-index none c.loop-hole-test.true in
    let free : c.loop-hole.low ≤ uid → uid < hole.low → ¬ Member taken uid =
    λ from below member. gap taken c.loop-hole.hole-index uid before.left (λ _. below) ((before.skipped uid from).0 member) in
    let held : c.loop-hole.low ≤ uid → hole.low ≤ uid → uid < c.args.range.high + 1 → Member taken uid =
    λ from above below. (before.skipped uid from).1 (rw here (inl (record { above = above; below = omega arith }))) in
    let put = up_to_hole _ _ _ (Member taken uid) c.args.range.low c.loop-hole.low hole.low (c.args.range.high + 1) uid
    (c.in_ok-push_below.ensures.members uid) (before.members uid) free held (omega arith) (omega arith) (omega arith) in
    grind (arith, put.0, put.1)

pub loop-hole-preserved : goal.loop-hole-preserved
loop-hole-preserved c =
    let taken = c.args.taken.now in
    let before = c.loop-hole.invariant in
    let hole = get_or taken c.loop-hole.hole-index none in
    let here = drop_here taken c.loop-hole.hole-index none c.loop-hole-test.true in
    let left = rw here at before.left in
    let floor = c.in_ok-push_below.ensures.floor in
    record {
      count = omega arith;
      above = omega arith;
      below = omega arith;
      canonical = c.in_ok-push_below.ensures.canonical;
      floor = omega (arith, left.0);
      left = RisesAbove-weaker 0 (hole.high + 1) _ (omega arith) left.1;
      members = λ uid.
          let free : c.loop-hole.low ≤ uid → uid < hole.low → ¬ Member taken uid =
          λ from below member. gap taken c.loop-hole.hole-index uid before.left (λ _. below) ((before.skipped uid from).0 member) in
          let held : c.loop-hole.low ≤ uid → hole.low ≤ uid → uid < c.max-low.result → Member taken uid =
          λ from above below. (before.skipped uid from).1 (rw here (inl (record { above = above; below = omega arith }))) in
          up_to_hole _ _ _ (Member taken uid) c.args.range.low c.loop-hole.low hole.low c.max-low.result uid
          (c.in_ok-push_below.ensures.members uid) (before.members uid) free held (omega arith) (omega arith) (omega (arith, left.0));
      skipped = λ uid from.
          let same = rw here at (before.skipped uid (omega arith)) in
          grind (arith, same.0, same.1);
    }

pushed : (c : goal.In_ok-push) → Pushes c.loop-hole.ranges.items (record { low = c.loop-hole.low; high = c.args.range.high })
    (c.loop-hole.ranges.items ++ record { low = c.loop-hole.low; high = c.args.range.high } ∷ [])
pushed c =
    let range : UidRange = record { low = c.loop-hole.low; high = c.args.range.high } in
    let before = c.loop-hole.invariant in
    let fits : IsRange (floor_behind 0 c.loop-hole.ranges.items) range =
    record { above = before.floor; ordered = before.below; fits = c.requires.range.fits } in
    pushes c.loop-hole.ranges.items range before.canonical fits

pub returns-clause-canonical : goal.returns-clause-canonical
returns-clause-canonical c = rw c.in_ok-push.ensures.items (pushed c).canonical

pub returns-clause-floor : goal.returns-clause-floor
returns-clause-floor c = rw c.in_ok-push.ensures.items (let floor = (pushed c).floor in omega arith)

pub returns-clause-members : goal.returns-clause-members
returns-clause-members c = rw c.in_ok-push.ensures.items (λ uid.
    let taken = c.args.taken.now in
    let before = c.loop-hole.invariant in
    let far : uid ≤ c.args.range.high → c.loop-hole.hole-index < length taken → uid < (get_or taken c.loop-hole.hole-index none).low =
    λ below within. elim c.loop-hole-test.branch as (λ _. uid < (get_or taken c.loop-hole.hole-index none).low) [
      | else-loop-hole-test w ↦ omega arith
      | then-loop-hole-test+then-range-hole w ↦ omega arith
    ] in
    let free : c.loop-hole.low ≤ uid → uid ≤ c.args.range.high → ¬ Member taken uid =
    λ from below member. gap taken c.loop-hole.hole-index uid before.left (far below) ((before.skipped uid from).0 member) in
    up_to_end _ _ _ (Member taken uid) c.args.range.low c.loop-hole.low c.args.range.high uid ((pushed c).members uid)
    (before.members uid) free (omega arith) (omega arith))
