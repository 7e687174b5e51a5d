-- The UIDs rise.
use Rattle.std.proofs.Common.{Bool, ℕ, ltb, rules, arith}
use Rattle.std.proofs.lemmas.Bool.Decides.{nat_tests}
use Rattle.std.proofs.lemmas.List.Sorted.{IsPartitionPoint-from_clause, IsPartitionedBy-ltb}
use Rattle.mailbox_cache.specs.declared.row.Row.{Row}
use Rattle.mailbox_cache.proofs.Splitting.{uids_rise, all_below, starts_from}
use Rattle.mailbox_cache.proofs.search.place_of.Goals as goal

pub returns-clause-below : goal.returns-clause-below
returns-clause-below c =
    let uid = c.args.uid in
    let is_below : ℕ × Row → Bool = λ r. ltb r.0 uid in
    let point = IsPartitionPoint-from_clause is_below c.args.rows.now c.partition_point.result c.partition_point.ensures.partitioned
    (IsPartitionedBy-ltb (λ r. r.0) c.args.rows.now uid (uids_rise c.args.rows.now c.requires)) (λ a r q k. search rules) in
    all_below uid c.args.rows.now c.partition_point.result c.partition_point.ensures.bound
    (λ k d l. let test = point.0 k d (omega arith) l in grind (arith, nat_tests))

pub returns-clause-behind : goal.returns-clause-behind
returns-clause-behind c =
    let uid = c.args.uid in
    let is_below : ℕ × Row → Bool = λ r. ltb r.0 uid in
    let point = IsPartitionPoint-from_clause is_below c.args.rows.now c.partition_point.result c.partition_point.ensures.partitioned
    (IsPartitionedBy-ltb (λ r. r.0) c.args.rows.now uid (uids_rise c.args.rows.now c.requires)) (λ a r q k. search rules) in
    starts_from uid c.args.rows.now c.partition_point.result (λ d l. let test = point.1 c.partition_point.result d (omega arith) l in grind (arith, nat_tests))
