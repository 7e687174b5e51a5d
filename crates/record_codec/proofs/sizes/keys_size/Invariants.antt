use Rattle.std.proofs.Common.{◌≡◌, ◌≤◌, ◌*◌, length, take}
use Rattle.std.specs.List.{flat_map}
use Rattle.record_codec.specs.Fields.{counted}
use Rattle.record_codec.proofs.sizes.keys_size.Given as goal

abbrev pub invariant-loop-key : goal.invariant-loop-key
invariant-loop-key l = record {
  value : l.size ≡ length (flat_map counted (take l.key-index l.keys));
  most : l.size ≤ l.key-index * 256;
}
