use Rattle.std.proofs.Common.{rules, ◌≡◌, ℕ, List, [], ◌∷◌, ◌++◌, ◌-◌, ◌+◌, Err, sym, ap, subst, ◌∙◌}
use Rattle.record_codec.specs.Reading.{many_at, range_at, behind_range}
use Rattle.std.specs.List.{AllByRecursion}
use Rattle.record_codec.proofs.Lists.{HighFits, all_push, ranges_canonical}
use Rattle.record_codec.proofs.Reader.{onto, many_more, many_fails, many_ends, fails_on}
use Rattle.uid_sets.specs.declared.uid.UidRange.{UidRange}
use Rattle.record_codec.proofs.reading.Fields.ranges.Goals as goal

pub returns-in_err-range-clause-read : goal.returns-in_err-range-clause-read
returns-in_err-range-clause-read c =
    let was : c.from_residual.result ≡ Err c.in_err-range.field-0.0 = search rules in
    rw was (fails_on c.in_err-range.field-0.0 (range_at c.loop-left.floor c.loop-left.self.rest.now)
    (many_at range_at behind_range c.args.count 0 c.args.self.now.rest.now)
    (λ n is. c.loop-left.invariant.read ∙ many_fails range_at behind_range c.loop-left.left c.loop-left.floor c.loop-left.self.rest.now n
    c.loop-left.ranges.items c.loop-left-test.true is) c.in_err-range.ensures.read)

pub loop-left-preserved : goal.loop-left-preserved
loop-left-preserved c = record {
  read =
      c.loop-left.invariant.read
      ∙ many_more range_at behind_range c.loop-left.left c.loop-left.floor c.loop-left.self.rest.now
      (c.in_ok-range.range, c.range.new.self.rest.now) c.loop-left.ranges.items c.loop-left-test.true c.in_ok-range.ensures.read
      ∙ ap (λ (floor : ℕ). onto (c.loop-left.ranges.items ++ c.in_ok-range.range ∷ [])
      (many_at range_at behind_range (c.loop-left.left - 1) (floor + 1) c.range.new.self.rest.now)) (sym c.from-floor.ensures)
      ∙ ap (λ (ranges : List UidRange). onto ranges (many_at range_at behind_range (c.loop-left.left - 1)
      (c.from-floor.result + 1) c.range.new.self.rest.now)) (sym c.in_ok-push.ensures.items);
  fit = subst (AllByRecursion HighFits) (sym c.in_ok-push.ensures.items)
      (all_push HighFits c.loop-left.ranges.items c.in_ok-range.range c.loop-left.invariant.fit c.in_ok-range.ensures.fits);
}

pub returns : goal.returns
returns c =
    let read = c.loop-left.invariant.read ∙ many_ends range_at behind_range c.loop-left.left c.loop-left.floor c.loop-left.self.rest.now
    c.loop-left.ranges.items c.loop-left-test.false in
    record {
      read = read;
      canonical = ranges_canonical c.args.count c.args.self.now.rest.now
          (c.loop-left.ranges.items, c.loop-left.self.rest.now) read c.loop-left.invariant.fit;
    }
