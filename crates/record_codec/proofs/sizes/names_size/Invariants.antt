use Rattle.std.proofs.Common.{◌≡◌, ◌≤◌, ◌*◌, length, take}
use Rattle.std.specs.List.{flat_map}
use Rattle.record_codec.specs.Fields.{counted}
use Rattle.record_codec.proofs.sizes.names_size.Given as goal

abbrev pub invariant-loop-name : goal.invariant-loop-name
invariant-loop-name l = record {
  value : l.size ≡ length (flat_map counted (take l.name-index l.names));
  most : l.size ≤ l.name-index * 129;
}
