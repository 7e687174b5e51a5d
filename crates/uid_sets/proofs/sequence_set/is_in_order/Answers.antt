-- Neighbours that rise, and so all of them.
use Rattle.std.proofs.Common.{◌≡◌, ℕ, rules}
use Rattle.std.proofs.lemmas.List.Sorted.{IsNonDecreasingBy-from_all_adjacent, answers_always}
use Rattle.uid_sets.proofs.Orders.{le_from_is_le}
use Rattle.uid_sets.specs.declared.uid.UidRange.{UidRange}
use Rattle.uid_sets.proofs.sequence_set.is_in_order.Goals as goal

abbrev low_of : UidRange → ℕ
low_of range = range.low

pub returns : goal.returns
returns c = λ is.
    let all = c.is_sorted_by_key.ensures.cases low_of (answers_always _ (λ a r. r ≡ low_of a.0.now) _ (λ f a r q k. search rules)) in
    let adjacent = rw is at all in
    IsNonDecreasingBy-from_all_adjacent low_of c.args.ranges.now (λ k d within. le_from_is_le _ _ (adjacent k d within))
