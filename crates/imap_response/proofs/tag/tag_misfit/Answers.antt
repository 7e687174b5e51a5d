use Rattle.std.proofs.Common.{◌+◌, drop, Some, sym, ap, ◌∙◌, arith}
use Rattle.imap_response.specs.Tags.{tag_misfit}
use Rattle.imap_response.proofs.Steps.{tag_on, tag_stops, tag_end}
use Rattle.imap_response.proofs.tag.tag_misfit.Goals as goal

pub returns-then-not-is_tag_byte : goal.returns-then-not-is_tag_byte
returns-then-not-is_tag_byte c = ap Some c.token_place.ensures
    ∙ sym (tag_stops _ _ _ c.loop-at-test.true (sym c.is_tag_byte.ensures ∙ c.if-not-is_tag_byte.true)) ∙ c.loop-at.invariant

pub loop-at-preserved : goal.loop-at-preserved
loop-at-preserved c =
    ap (λ start. tag_misfit start (c.loop-at.at + 1) (drop (c.loop-at.at + 1) c.args.word.now)) c.start_behind-start.ensures
    ∙ sym (tag_on _ _ _ c.loop-at-test.true (sym c.is_tag_byte.ensures ∙ c.if-not-is_tag_byte.false)) ∙ c.loop-at.invariant

pub returns : goal.returns
returns c = sym (tag_end c.args.word.now c.loop-at.start c.loop-at.at (omega (arith, c.loop-at-test.false, c.loop-at.auto.at-end))) ∙ c.loop-at.invariant
