use Rattle.std.proofs.Common.{ap, sym, ◌∙◌}
use Rattle.body_cache.specs.TextFound.{text_found, then_found}
use Rattle.body_cache.specs.declared.found.TextFound.{TextFound}
use Rattle.body_cache.proofs.LastTexts.{one_more}
use Rattle.body_cache.proofs.found.text_of.Goals as goal

-- a response more was told
pub loop-response-preserved : goal.loop-response-preserved
loop-response-preserved c =
    c.then_found-found.ensures ∙ ap (λ (f : TextFound). then_found f c.told_in-next.result) c.loop-response.invariant
    ∙ ap (then_found (text_found c.args.uid c.loop-response.yielded)) c.told_in-next.ensures
    ∙ sym (one_more c.args.uid c.loop-response.yielded c.in-Some.response)
