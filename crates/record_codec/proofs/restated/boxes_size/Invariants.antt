use Rattle.std.proofs.Common.{◌≡◌, ◌≤◌, ◌*◌, ◌^◌, take}
use Rattle.std.specs.Prelude.{sum_by}
use Rattle.record_codec.specs.Restated.{box_size}
use Rattle.record_codec.proofs.restated.boxes_size.Given as goal

abbrev pub invariant-loop-known : goal.invariant-loop-known
invariant-loop-known l = record {
  value : l.size ≡ sum_by box_size (take l.known-index l.boxes);
  most : l.size ≤ l.known-index * 2 ^ 40;
}
