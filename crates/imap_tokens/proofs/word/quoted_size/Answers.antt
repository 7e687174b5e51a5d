use Rattle.std.proofs.Common.{◌≡◌, ◌+◌, length, get_or, drop, Some, true, false, ◌∙◌, sym, ap, arith}
use Rattle.std.proofs.lemmas.Bool.Decides.{nat_tests}
use Rattle.std.specs.Prelude.{◌==◌}
use Rattle.imap_tokens.specs.Scan.{quoted_from}
use Rattle.imap_tokens.proofs.Quoted.{quoted_found, quoted_none, at_end, escaped_bad, escaped_on, plain_end, plain_bad, plain_on}
use Rattle.imap_tokens.proofs.word.quoted_size.Goals as goal
use Rattle.imap_tokens.proofs.word.quoted_size.Goals.{then-escaped+else-not-is_escaped, else-escaped+else-byte-eq34+else-is_forbidden}

pub returns-then-not-is_escaped-clause-none : goal.returns-then-not-is_escaped-clause-none
returns-then-not-is_escaped-clause-none c =
    quoted_none c.args.text.now (sym
    (escaped_bad c.args.text.now c.loop-before.before c.loop-before.escaped _ c.loop-before.invariant c.loop-before-test.true c.if-escaped.true cc))

pub returns-then-byte-eq34-clause-found : goal.returns-then-byte-eq34-clause-found
returns-then-byte-eq34-clause-found c =
    let text = c.args.text.now in
    let i = c.loop-before.before in
    let test : (get_or text i 0 == 34) ≡ true = grind (arith, nat_tests) in
    let two : i + 1 + 1 ≡ i + 2 = omega arith in
    quoted_found text (i + 2) (sym (ap (λ n. Some n) (sym two)
    ∙ plain_end text i c.loop-before.escaped _ c.loop-before.invariant c.loop-before-test.true c.if-escaped.false test))

pub returns-then-is_forbidden-clause-none : goal.returns-then-is_forbidden-clause-none
returns-then-is_forbidden-clause-none c =
    let text = c.args.text.now in
    let i = c.loop-before.before in
    let test : (get_or text i 0 == 34) ≡ false = grind (arith, nat_tests) in
    quoted_none text (sym (plain_bad text i c.loop-before.escaped _ c.loop-before.invariant c.loop-before-test.true c.if-escaped.false test cc))

pub loop-before-preserved : goal.loop-before-preserved
loop-before-preserved c =
    let text = c.args.text.now in
    let i = c.loop-before.before in
    elim c.if-escaped.branch [
      | then-escaped+else-not-is_escaped w ↦
          ap (λ e. quoted_from e (i + 1 + 1) (drop (i + 1) text)) w.escaped-is
          ∙ escaped_on text i c.loop-before.escaped _ c.loop-before.invariant c.loop-before-test.true w.if-escaped.true cc
      | else-escaped+else-byte-eq34+else-is_forbidden w ↦
          let no_quote = w.if-byte-eq34.false in
          let test : (get_or text i 0 == 34) ≡ false = grind (arith, nat_tests) in
          ap (λ e. quoted_from e (i + 1 + 1) (drop (i + 1) text)) w.escaped-is
          ∙ plain_on text i c.loop-before.escaped _ c.loop-before.invariant c.loop-before-test.true w.if-escaped.false test cc
    ]

pub returns-clause-none : goal.returns-clause-none
returns-clause-none c = let at : c.loop-before.before ≡ length c.args.text.now = omega arith in
    quoted_none c.args.text.now (sym (sym (at_end c.loop-before.escaped (c.loop-before.before + 1) c.args.text.now)
    ∙ ap (λ k. quoted_from c.loop-before.escaped (c.loop-before.before + 1) (drop k c.args.text.now)) (sym at)
    ∙ c.loop-before.invariant))

pub returns-then-not-is_escaped-clause-value : goal.returns-then-not-is_escaped-clause-value
returns-then-not-is_escaped-clause-value c =
    escaped_bad c.args.text.now c.loop-before.before c.loop-before.escaped _ c.loop-before.invariant c.loop-before-test.true c.if-escaped.true cc

pub returns-then-byte-eq34-clause-value : goal.returns-then-byte-eq34-clause-value
returns-then-byte-eq34-clause-value c =
    let text = c.args.text.now in
    let i = c.loop-before.before in
    let test : (get_or text i 0 == 34) ≡ true = grind (arith, nat_tests) in
    let two : i + 1 + 1 ≡ i + 2 = omega arith in
    ap (λ n. Some n) (sym two) ∙ plain_end text i c.loop-before.escaped _ c.loop-before.invariant c.loop-before-test.true c.if-escaped.false test

pub returns-then-is_forbidden-clause-value : goal.returns-then-is_forbidden-clause-value
returns-then-is_forbidden-clause-value c =
    let text = c.args.text.now in
    let i = c.loop-before.before in
    let test : (get_or text i 0 == 34) ≡ false = grind (arith, nat_tests) in
    plain_bad text i c.loop-before.escaped _ c.loop-before.invariant c.loop-before-test.true c.if-escaped.false test cc

pub returns-clause-value : goal.returns-clause-value
returns-clause-value c = let at : c.loop-before.before ≡ length c.args.text.now = omega arith in
    sym (at_end c.loop-before.escaped (c.loop-before.before + 1) c.args.text.now)
    ∙ ap (λ k. quoted_from c.loop-before.escaped (c.loop-before.before + 1) (drop k c.args.text.now)) (sym at) ∙ c.loop-before.invariant
