use Rattle.std.proofs.Common.{false, ap, ◌∙◌, arith}
use Rattle.std.proofs.lemmas.Bool.Decides.{nat_tests}
use Rattle.imap_response.specs.ReadStrings.{unquoted_from}
use Rattle.imap_response.proofs.Steps.{after_escape, at_quote, at_slash, at_plain, no_quote, behind_first}
use Rattle.imap_response.proofs.strings.unquoted.Goals as goal

pub loop-byte-init : goal.loop-byte-init
loop-byte-init c = rw c.new-bytes.ensures.items (ap (unquoted_from false) (c.split_at.ensures.back ∙ rw c.min.ensures (behind_first c.args.token.now)))

pub loop-byte-preserved-then-escaped : goal.loop-byte-preserved-then-escaped
loop-byte-preserved-then-escaped c = rw c.in_ok-push.ensures.items (after_escape _ _ _ _ _ c.loop-byte-test.true c.loop-byte.invariant c.if-escaped.true)

pub returns-then-byte-eq34 : goal.returns-then-byte-eq34
returns-then-byte-eq34 c = c.of.ensures ∙ at_quote _ _ _ _ _ c.loop-byte-test.true c.loop-byte.invariant c.if-escaped.false (grind (arith, nat_tests))

pub loop-byte-preserved-then-byte-eq92 : goal.loop-byte-preserved-then-byte-eq92
loop-byte-preserved-then-byte-eq92 c = at_slash _ _ _ _ _ c.loop-byte-test.true c.loop-byte.invariant c.if-escaped.false
    (grind (arith, nat_tests)) (grind (arith, nat_tests))

pub loop-byte-preserved : goal.loop-byte-preserved
loop-byte-preserved c = rw c.in_ok-push-2.ensures.items (at_plain _ _ _ _ _ c.loop-byte-test.true c.loop-byte.invariant c.if-escaped.false
    (grind (arith, nat_tests)) (grind (arith, nat_tests)))

pub returns : goal.returns
returns c = c.of-2.ensures ∙ no_quote c.loop-byte.bytes.items c.split_at.result.1.now c.loop-byte.byte-index c.loop-byte.escaped _
    (omega (arith, c.loop-byte-test.false, c.loop-byte.auto.byte-index-end)) c.loop-byte.invariant
