use Rattle.std.proofs.Common.{◌≡◌, ◌++◌, take}
use Rattle.std.specs.List.{flat_map, AllByRecursion}
use Rattle.mail_base.specs.BoxName.{IsBoxName}
use Rattle.record_codec.specs.Fields.{counted}
use Rattle.record_codec.proofs.fields.put_names.Given as goal

abbrev pub invariant-loop-name : goal.invariant-loop-name
invariant-loop-name l = record {
  wrote : l.out.items ≡ l.fn.out.items ++ flat_map counted (take l.name-index l.names);
  kept : AllByRecursion IsBoxName (take l.name-index l.names);
}
