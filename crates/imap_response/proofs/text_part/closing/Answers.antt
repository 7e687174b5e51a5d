use Rattle.std.proofs.Common.{◌≡◌, get_or, true, false, sym, ◌∙◌, arith, refl}
use Rattle.std.proofs.lemmas.Bool.Decides.{nat_tests}
use Rattle.std.specs.Prelude.{◌==◌}
use Rattle.imap_response.proofs.Closings.{inside_fits, string_ends, string_goes, was_inside, at_bracket, may_begin, at_text_end}
use Rattle.imap_response.proofs.text_part.closing.Goals as goal

pub loop-at-preserved-then-ends : goal.loop-at-preserved-then-ends
loop-at-preserved-then-ends c = record {
  within = tt;
  same =
      string_ends _ _ _ _ _ _ c.loop-at-test.true c.loop-at.invariant.same _ c.ends.ensures c.if-ends.true;
}

pub loop-at-preserved-then-goes_on : goal.loop-at-preserved-then-goes_on
loop-at-preserved-then-goes_on c = record {
  within = rw c.first_inside-inside.ensures (inside_fits c.loop-at.inside _ c.loop-at.at _ c.loop-at.invariant.within c.loop-at-test.true);
  same = rw (c.escapes-escaped.ensures, c.first_inside-inside.ensures)
      (string_goes _ _ _ _ _ _ c.loop-at-test.true c.loop-at.invariant.same _ c.goes_on.ensures c.if-goes_on.true);
}

pub returns-then-is_some-clause-value : goal.returns-then-is_some-clause-value
returns-then-is_some-clause-value c =
    was_inside _ _ _ _ _ _ c.loop-at-test.true c.loop-at.invariant.same _ _ c.ends.ensures c.if-ends.false c.goes_on.ensures
    c.if-goes_on.false (sym c.is_some.ensures ∙ c.if-is_some.true)

pub returns-then-byte-eq93-clause-value : goal.returns-then-byte-eq93-clause-value
returns-then-byte-eq93-clause-value c = let test : (get_or c.args.text.now c.loop-at.at 0 == 93) ≡ true = grind (arith, nat_tests) in
    at_bracket _ _ _ _ _ _ c.loop-at-test.true c.loop-at.invariant.same _ _ c.ends.ensures c.if-ends.false c.goes_on.ensures
    c.if-goes_on.false (sym c.is_some.ensures ∙ c.if-is_some.false) test

pub loop-at-preserved : goal.loop-at-preserved
loop-at-preserved c = let other = c.if-byte-eq93.false in let test : (get_or c.args.text.now c.loop-at.at 0 == 93) ≡ false =
    grind (arith, nat_tests) in record {
      within = c.loop-at.invariant.within;
      same =
          may_begin _ _ _ _ _ _ c.loop-at-test.true c.loop-at.invariant.same _ _ c.ends.ensures c.if-ends.false c.goes_on.ensures
          c.if-goes_on.false _ (sym c.is_some.ensures ∙ c.if-is_some.false) test refl;
    }

pub returns-clause-value : goal.returns-clause-value
returns-clause-value c = at_text_end c.args.text.now c.loop-at.at c.loop-at.quoted c.loop-at.escaped _ _
    (omega (arith, c.loop-at-test.false, c.loop-at.auto.at-end)) c.loop-at.invariant.same
