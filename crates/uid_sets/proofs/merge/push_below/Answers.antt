-- A range behind the others.
use Rattle.std.proofs.Common.{◌-◌, ◌∷◌, [], ◌++◌, arith}
use Rattle.uid_sets.specs.Rising.{floor_behind}
use Rattle.uid_sets.specs.UidSet.{IsRange}
use Rattle.uid_sets.specs.declared.uid.UidRange.{UidRange}
use Rattle.uid_sets.proofs.Ranges.{Pushes, pushes}
use Rattle.uid_sets.proofs.merge.push_below.Goals as goal

pushed : (c : goal.In_ok-push) → Pushes c.args.ranges.now.items (record { low = c.args.low; high = c.args.end - 1 })
    (c.args.ranges.now.items ++ record { low = c.args.low; high = c.args.end - 1 } ∷ [])
pushed c =
    let range : UidRange = record { low = c.args.low; high = c.args.end - 1 } in
    let fits : IsRange (floor_behind 0 c.args.ranges.now.items) range = record { above = c.requires.floor; ordered = omega arith; fits = omega arith } in
    pushes c.args.ranges.now.items range c.requires.canonical fits

pub returns-in_ok-push-clause-canonical : goal.returns-in_ok-push-clause-canonical
returns-in_ok-push-clause-canonical c = rw c.in_ok-push.ensures.items (pushed c).canonical

pub returns-in_ok-push-clause-floor : goal.returns-in_ok-push-clause-floor
returns-in_ok-push-clause-floor c = rw c.in_ok-push.ensures.items (let floor = (pushed c).floor in omega arith)

pub returns-in_ok-push-clause-members : goal.returns-in_ok-push-clause-members
returns-in_ok-push-clause-members c = rw c.in_ok-push.ensures.items (λ uid.
    let more = (pushed c).members uid in grind (arith, more.0, more.1))
