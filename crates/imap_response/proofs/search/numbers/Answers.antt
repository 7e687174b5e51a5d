use Rattle.std.proofs.Common.{sym, ◌∙◌}
use Rattle.std.proofs.lemmas.Result.{err_from_is_err_and}
use Rattle.imap_response.proofs.LoopLemmas.{is_blank, not_blank}
use Rattle.imap_response.proofs.NumberSets.{all_push}
use Rattle.imap_response.proofs.TurnLemmas.{numbers_first, numbers_done, numbers_out, numbers_gap, numbers_end_broken, numbers_end, number_broken, number_on}
use Rattle.imap_response.proofs.search.numbers.Goals as goal

pub returns-then-is_empty-clause-value : goal.returns-then-is_empty-clause-value
returns-then-is_empty-clause-value c = sym c.loop.invariant.same
    ∙ numbers_done _ _ _ (is_blank _ c.loop.rest.now _ c.blank.ensures c.is_empty.ensures c.if-is_empty.true)

pub returns-in_err-after-clause-value : goal.returns-in_err-after-clause-value
returns-in_err-after-clause-value c = let p = err_from_is_err_and c.from_residual.result c.from_residual.ensures.1 in
    rw (p.1, p.2) (numbers_gap _ _ _ _ _ _ c.loop-test.true
    (not_blank _ c.loop.rest.now _ c.blank.ensures c.is_empty.ensures c.if-is_empty.false) c.in_err-after.ensures.value c.loop.invariant.same)

pub returns-in_err-search_end-clause-value : goal.returns-in_err-search_end-clause-value
returns-in_err-search_end-clause-value c = let p =
    err_from_is_err_and c.from_residual-in_err-search_end.result c.from_residual-in_err-search_end.ensures.1 in
    rw (p.1, p.2) (numbers_end_broken _ _ _ _ _ _ c.loop-test.true
    (not_blank _ c.loop.rest.now _ c.blank.ensures c.is_empty.ensures c.if-is_empty.false) c.in_ok-after.ensures.value
    c.loop.invariant.same _ (sym c.begins_with.ensures ∙ c.if-begins_with.true) c.in_err-search_end.ensures)

pub returns-then-begins_with-clause-value : goal.returns-then-begins_with-clause-value
returns-then-begins_with-clause-value c = numbers_end _ _ _ _ _ _ c.loop-test.true
    (not_blank _ c.loop.rest.now _ c.blank.ensures c.is_empty.ensures c.if-is_empty.false) c.in_ok-after.ensures.value
    c.loop.invariant.same (sym c.begins_with.ensures ∙ c.if-begins_with.true) c.in_ok-search_end.ensures

pub returns-in_err-number-clause-value : goal.returns-in_err-number-clause-value
returns-in_err-number-clause-value c = let p =
    err_from_is_err_and c.from_residual-in_err-number.result c.from_residual-in_err-number.ensures.1 in
    rw (p.1, p.2) (number_broken _ _ _ _ _ _ c.loop-test.true
    (not_blank _ c.loop.rest.now _ c.blank.ensures c.is_empty.ensures c.if-is_empty.false) c.in_ok-after.ensures.value
    c.loop.invariant.same _ (sym c.begins_with.ensures ∙ c.if-begins_with.false) c.in_err-number.ensures.value)

pub loop-init : goal.loop-init
loop-init c = record { uids = rw c.new-numbers.ensures.items tt; same = rw c.new-numbers.ensures.items (numbers_first _ _) }

pub loop-preserved : goal.loop-preserved
loop-preserved c = record {
  uids = rw c.in_ok-push.ensures.items (all_push _ _ c.loop.invariant.uids c.in_ok-number.ensures.uid);
  same = rw c.in_ok-push.ensures.items (number_on _ _ _ _ _ _ c.loop-test.true
      (not_blank _ c.loop.rest.now _ c.blank.ensures c.is_empty.ensures c.if-is_empty.false) c.in_ok-after.ensures.value
      c.loop.invariant.same _ _ (sym c.begins_with.ensures ∙ c.if-begins_with.false) c.in_ok-number.ensures.value);
}

pub returns-clause-value : goal.returns-clause-value
returns-clause-value c = sym c.loop.invariant.same ∙ numbers_out _ _ _ _ c.loop-test.false
