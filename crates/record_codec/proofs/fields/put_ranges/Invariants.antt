use Rattle.std.proofs.Common.{◌≡◌, ◌++◌, take}
use Rattle.std.specs.List.{flat_map}
use Rattle.record_codec.specs.Fields.{range_field}
use Rattle.record_codec.proofs.fields.put_ranges.Given as goal

abbrev pub invariant-loop-range : goal.invariant-loop-range
invariant-loop-range l = l.out.items ≡ l.fn.out.items ++ flat_map range_field (take l.range-index l.ranges)
