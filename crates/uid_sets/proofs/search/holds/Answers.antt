-- The place where the UID would stand.
use Rattle.std.proofs.Common.{arith}
use Rattle.std.proofs.lemmas.Bool.Decides.{nat_tests}
use Rattle.uid_sets.proofs.Queries.{none, member_by_place}
use Rattle.uid_sets.proofs.search.holds.Goals as goal

pub returns-then-place-ranges : goal.returns-then-place-ranges
returns-then-place-ranges c =
    let point = c.place_of-place.ensures in
    let stands = member_by_place 0 c.args.ranges.now c.args.uid c.place_of-place.result c.requires
    (λ k below within. point.0 k none (omega arith) below) (λ within. point.1 c.place_of-place.result none (omega arith) within) in
    grind (arith, nat_tests, stands.0, stands.1)

pub returns-else-place-ranges : goal.returns-else-place-ranges
returns-else-place-ranges c =
    let point = c.place_of-place.ensures in
    let stands = member_by_place 0 c.args.ranges.now c.args.uid c.place_of-place.result c.requires
    (λ k below within. point.0 k none (omega arith) below) (λ within. point.1 c.place_of-place.result none (omega arith) within) in
    grind (arith, nat_tests, stands.0, stands.1)
