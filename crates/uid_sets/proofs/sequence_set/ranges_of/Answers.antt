-- What is written, in order and joined.
use Rattle.std.proofs.Common.{arith}
use Rattle.std.proofs.lemmas.List.Elements.{recursion_from_All, All-from_recursion}
use Rattle.std.proofs.lemmas.List.Sorted.{All-permutation}
use Rattle.uid_sets.specs.UidSet.{IsRange}
use Rattle.uid_sets.proofs.Orders.{Member-permutation, RisesByLow-ordered}
use Rattle.uid_sets.proofs.Fits.{items_of_fit}
use Rattle.uid_sets.proofs.sequence_set.ranges_of.Goals as goal

pub joined-requires : goal.joined-requires
joined-requires c =
    let put = c.in_ok-put_in_order.ensures in
    let fits = recursion_from_All _ _ (All-permutation (IsRange 0) _ _ put.permutation
    (All-from_recursion _ _ (items_of_fit c.args.text.now _ c.in_ok-written.ensures.value))) in
    rw c.deref.ensures.value (RisesByLow-ordered 0 _ fits put.ordered (λ _. omega arith))

pub returns-clause-value : goal.returns-clause-value
returns-clause-value c =
    let joins = c.in_ok-joined.ensures in
    let members = rw c.deref.ensures.value at joins.members in
    record {
      written = c.in_ok-written.written.items;
      read = c.in_ok-written.ensures.value;
      canonical = joins.canonical;
      members = λ uid.
          let same = Member-permutation _ _ uid c.in_ok-put_in_order.ensures.permutation in
          let whole = members uid in
          (λ member. same.1 (whole.0 member), λ member. whole.1 (same.0 member));
    }
