use Rattle.std.proofs.Common.{◌+◌, ◌-◌, length, sym, ap, ◌∙◌}
use Rattle.std.proofs.lemmas.Result.{err_from_is_err_and}
use Rattle.imap_response.specs.Left.{left_of}
use Rattle.imap_response.specs.ReadValues.{list_from}
use Rattle.imap_response.proofs.LoopLemmas.{broken, list_step, list_closed, list_on, list_out, deeper_fits}
use Rattle.imap_response.proofs.values.list.Goals as goal

pub returns-in_err-kind : goal.returns-in_err-kind
returns-in_err-kind c = let p = err_from_is_err_and c.from_residual.result c.from_residual.ensures.1 in
    rw (p.1, p.2) (broken _ _ _ _ c.in_err-kind.ensures.value (sym c.loop.invariant.same ∙ list_step _ _ _ _ c.loop-test.true))

pub returns-then-closes : goal.returns-then-closes
returns-then-closes c = sym c.loop.invariant.same ∙ list_closed _ _ _ _ _ _ _ c.loop-test.true c.in_ok-kind.ensures.value
    (sym c.closes.ensures ∙ c.if-closes.true)

pub loop-preserved : goal.loop-preserved
loop-preserved c = record {
  deep = rw c.deeper_by-deeper.ensures (deeper_fits c.in_ok-kind.kind c.loop.deeper c.loop.counter c.loop.invariant.deep);
  same = ap (λ deeper. list_from (length c.args.rest.text.now - (c.loop.counter + 1)) deeper (left_of c.in_ok-kind.behind)) c.deeper_by-deeper.ensures
      ∙ sym (list_on _ _ _ _ _ _ _ c.loop-test.true c.in_ok-kind.ensures.value (sym c.closes.ensures ∙ c.if-closes.false)) ∙ c.loop.invariant.same;
}

pub returns : goal.returns
returns c = sym c.loop.invariant.same ∙ list_out _ _ _ _ c.loop-test.false
