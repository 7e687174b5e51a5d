use Rattle.std.proofs.lemmas.Result.{IfOk-weaker}
use Rattle.imap_response.proofs.NumberSets.{all_moved, number_set}
use Rattle.imap_response.proofs.search.set_with.Goals as goal

pub added-requires : goal.added-requires
added-requires c = rw c.deref.ensures.value (all_moved _ _ c.in_ok-sort.ensures.permutation c.requires)

pub returns : goal.returns
returns c = IfOk-weaker c.added.result _ _ (λ uids h. number_set c.args.numbers.items c.sort.new.self.items uids c.requires c.in_ok-sort.ensures.permutation h.0
    (λ uid. rw c.deref.ensures.value at (h.1 uid))) c.added.ensures
