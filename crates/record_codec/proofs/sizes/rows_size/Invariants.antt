use Rattle.std.proofs.Common.{◌≡◌, ◌≤◌, ◌*◌, length, take}
use Rattle.std.specs.List.{flat_map}
use Rattle.record_codec.specs.Fields.{row_field}
use Rattle.record_codec.proofs.sizes.rows_size.Given as goal

abbrev pub invariant-loop-uid : goal.invariant-loop-uid
invariant-loop-uid l = record {
  value : l.size ≡ length (flat_map row_field (take l.uid-index l.rows));
  most : l.size ≤ l.uid-index * 262158;
}
