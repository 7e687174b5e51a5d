use Rattle.std.proofs.Common.{◌≡◌}
use Rattle.std.specs.List.{AllByRecursion}
use Rattle.record_codec.specs.Reading.{many_at, range_at, behind_range}
use Rattle.record_codec.proofs.Reader.{onto}
use Rattle.record_codec.proofs.Lists.{HighFits}
use Rattle.record_codec.proofs.reading.Fields.ranges.Given as goal

abbrev pub invariant-loop-left : goal.invariant-loop-left
invariant-loop-left l = record {
  read : many_at range_at behind_range l.count 0 l.fn.self.rest.now ≡ onto l.ranges.items (many_at range_at behind_range l.left l.floor l.self.rest.now);
  fit : AllByRecursion HighFits l.ranges.items;
}

abbrev pub decreases-loop-left : goal.decreases-loop-left
decreases-loop-left l = l.left
