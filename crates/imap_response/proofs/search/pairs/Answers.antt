use Rattle.std.proofs.Common.{sym, ◌∙◌}
use Rattle.std.proofs.lemmas.Result.{err_from_is_err_and}
use Rattle.imap_response.specs.Left.{left_of}
use Rattle.imap_response.proofs.LoopLemmas.{is_blank, not_blank}
use Rattle.imap_response.proofs.TurnLemmas.{pairs_first, pairs_broken, pairs_on, pairs_done, pairs_out}
use Rattle.imap_response.proofs.search.pairs.Goals as goal

pub returns-then-is_empty : goal.returns-then-is_empty
returns-then-is_empty c = sym c.loop.invariant ∙ pairs_done _ _ (left_of c.loop.rest)
    (is_blank _ c.loop.rest.text.now _ c.blank.ensures c.is_empty.ensures c.if-is_empty.true)

pub returns-in_err-set : goal.returns-in_err-set
returns-in_err-set c = let p = err_from_is_err_and c.from_residual.result c.from_residual.ensures.1 in
    rw (p.1, p.2) (pairs_broken _ _ _ _ (left_of c.loop.rest) _ c.loop-test.true
    (not_blank _ c.loop.rest.text.now _ c.blank.ensures c.is_empty.ensures c.if-is_empty.false) c.in_err-set.ensures c.loop.invariant)

pub loop-init : goal.loop-init
loop-init c = rw c.none-set.ensures (pairs_first _ _ _)

pub loop-preserved : goal.loop-preserved
loop-preserved c = sym (pairs_on _ _ _ _ (left_of c.loop.rest) _ c.loop-test.true
    (not_blank _ c.loop.rest.text.now _ c.blank.ensures c.is_empty.ensures c.if-is_empty.false) c.in_ok-set.ensures) ∙ c.loop.invariant

pub returns : goal.returns
returns c = sym c.loop.invariant ∙ pairs_out _ _ _ _ c.loop-test.false
