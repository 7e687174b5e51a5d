use Rattle.std.proofs.Common.{sym, ◌∙◌}
use Rattle.std.proofs.lemmas.Result.{err_from_is_err_and}
use Rattle.imap_response.proofs.LoopLemmas.{broken, section_step, section_closed, section_on, section_out}
use Rattle.imap_response.proofs.values.section.Goals as goal

pub returns-in_err-kind : goal.returns-in_err-kind
returns-in_err-kind c = let p = err_from_is_err_and c.from_residual.result c.from_residual.ensures.1 in
    rw (p.1, p.2) (broken _ _ _ _ c.in_err-kind.ensures.value (sym c.loop.invariant ∙ section_step _ _ _ c.loop-test.true))

pub returns-then-is_bracket : goal.returns-then-is_bracket
returns-then-is_bracket c = sym c.loop.invariant ∙ section_closed _ _ _ _ _ _ c.loop-test.true c.in_ok-kind.ensures.value
    (sym c.is_bracket.ensures ∙ c.if-is_bracket.true)

pub loop-preserved : goal.loop-preserved
loop-preserved c = sym (section_on _ _ _ _ _ _ c.loop-test.true c.in_ok-kind.ensures.value
    (sym c.is_bracket.ensures ∙ c.if-is_bracket.false)) ∙ c.loop.invariant

pub returns : goal.returns
returns c = sym c.loop.invariant ∙ section_out _ _ _ c.loop-test.false
