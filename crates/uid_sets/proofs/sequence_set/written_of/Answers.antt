-- One item more, its fault, and the end.
use Rattle.std.proofs.Common.{sym, ◌∙◌}
use Rattle.std.proofs.lemmas.Result.{err_from_is_err_and}
use Rattle.uid_sets.proofs.Items.{items_of_some, fault_first, read_more, split_by_cut, place_by_cut, refuses}
use Rattle.uid_sets.proofs.sequence_set.written_of.Goals as goal

pub returns-in_err-item_of-clause-fault : goal.returns-in_err-item_of-clause-fault
returns-in_err-item_of-clause-fault c =
    let text = c.args.text.now in
    let read = rw (c.in-Some.is, split_by_cut _ _ _ c.cut.ensures.before c.cut.ensures.behind) at c.loop-left.invariant.read in
    let p = err_from_is_err_and c.from_residual.result c.from_residual.ensures.1 in
    rw (p.1, p.2) (refuses text _ (items_of_some text c.requires ∙ sym read ∙ fault_first c.loop-left.at _ _ _ _ (sym c.in_err-item_of.ensures)))

pub loop-left-preserved : goal.loop-left-preserved
loop-left-preserved c =
    let place = rw c.in-Some.is at c.loop-left.invariant.place in
    let read = rw (c.in-Some.is, split_by_cut _ _ _ c.cut.ensures.before c.cut.ensures.behind) at c.loop-left.invariant.read in
    record {
      place = place_by_cut c.loop-left.at _ _ _ c.cut.result.1 c.cut.ensures.before c.cut.ensures.behind place;
      read = rw c.in_ok-push.ensures.items (read_more _ c.loop-left.at _ _ _ c.cut.result.1 (sym c.in_ok-item_of.ensures) read);
    }

pub returns-clause-value : goal.returns-clause-value
returns-clause-value c =
    let text = c.args.text.now in
    let read = rw c.in_default.is at c.loop-left.invariant.read in
    items_of_some text c.requires ∙ read
