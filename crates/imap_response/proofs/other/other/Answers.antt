use Rattle.std.proofs.Common.{◌+◌, ◌-◌, length, sym, ap, ◌∙◌}
use Rattle.imap_response.specs.Left.{left_of}
use Rattle.imap_response.specs.ReadLines.{other_from}
use Rattle.imap_response.proofs.TurnLemmas.{other_out, other_literal, other_done, other_bad, other_on}
use Rattle.imap_response.proofs.other.other.Goals as goal

pub loop-preserved-then-size-gt0 : goal.loop-preserved-then-size-gt0
loop-preserved-then-size-gt0 c =
    ap (λ left. other_from (length c.args.rest.text.now - (c.loop.counter + 1)) left.text left) c.behind_literal-rest.ensures
    ∙ sym (other_literal _ _ _ (left_of c.loop.rest) _ c.loop-test.true c.literal_len-size.ensures.value c.if-size-gt0.true) ∙ c.loop.invariant

pub returns-in_default : goal.returns-in_default
returns-in_default c = rw (sym c.loop.invariant ∙ other_done _ _ _
    (left_of c.loop.rest) _ c.loop-test.true c.literal_len-size.ensures.value c.if-size-gt0.false c.in_default.ensures.cases) c.unheaded.ensures

pub returns-then-is_forbidden : goal.returns-then-is_forbidden
returns-then-is_forbidden c = sym c.loop.invariant ∙ other_bad _ _ _
    (left_of c.loop.rest) _ _ _ c.loop-test.true c.literal_len-size.ensures.value c.if-size-gt0.false c.in-Some.ensures.cases.0
    (sym c.is_forbidden.ensures ∙ c.if-is_forbidden.true)

pub loop-preserved : goal.loop-preserved
loop-preserved c =
    ap (λ left. other_from (length c.args.rest.text.now - (c.loop.counter + 1)) c.loop.last.now left) c.at-rest.ensures
    ∙ sym (other_on _ _ _
    (left_of c.loop.rest) _ _ _ c.loop-test.true c.literal_len-size.ensures.value c.if-size-gt0.false c.in-Some.ensures.cases.0
    (sym c.is_forbidden.ensures ∙ c.if-is_forbidden.false)) ∙ c.loop.invariant

pub returns : goal.returns
returns c = rw (sym c.loop.invariant ∙ other_out _ _ _ _ c.loop-test.false) c.unheaded-2.ensures
