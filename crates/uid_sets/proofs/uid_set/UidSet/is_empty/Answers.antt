-- No range, no member.
use Rattle.std.proofs.Common.{◌≡◌, length, ap, arith}
use Rattle.std.proofs.lemmas.Bool.Decides.{nat_tests}
use Rattle.uid_sets.proofs.Queries.{no_range, no_member}
use Rattle.uid_sets.proofs.uid_set.UidSet.is_empty.Goals as goal

pub returns-clause-members : goal.returns-clause-members
returns-clause-members c = rw (← c.self.view_is) (
    let ranges = c.self.inside.ranges.items in (
      λ is uid. let len : length ranges ≡ 0 = grind (arith, nat_tests) in no_member ranges uid len,
      λ none. let len = ap length (no_range ranges c.self.invariant none) in grind (arith, nat_tests),
    ))
