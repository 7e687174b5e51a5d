-- The high ends rise.
use Rattle.std.proofs.Common.{Bool, ltb, rules, arith}
use Rattle.std.proofs.lemmas.Bool.Decides.{nat_tests}
use Rattle.std.proofs.lemmas.List.Sorted.{IsPartitionPoint-from_clause, IsPartitionedBy-ltb}
use Rattle.uid_sets.specs.declared.uid.UidRange.{UidRange}
use Rattle.uid_sets.proofs.Queries.{highs_rise}
use Rattle.uid_sets.proofs.search.place_of.Goals as goal

pub returns : goal.returns
returns c =
    let uid = c.args.uid in
    let ends_below : UidRange → Bool = λ range. ltb range.high uid in
    let point = IsPartitionPoint-from_clause ends_below c.args.ranges.now c.partition_point.result c.partition_point.ensures.partitioned
    (IsPartitionedBy-ltb (λ range. range.high) c.args.ranges.now uid (highs_rise 0 c.args.ranges.now c.requires))
    (λ a r q k. search rules) in (
      λ k d low high. (let test = point.0 k d low high in grind (arith, nat_tests)),
      λ k d low high. (let test = point.1 k d low high in grind (arith, nat_tests)),
    )
