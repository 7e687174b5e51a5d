use Rattle.std.proofs.Common.{◌≡◌, ◌++◌, take}
use Rattle.std.specs.List.{flat_map, AllByRecursion}
use Rattle.record_codec.specs.Fields.{row_field}
use Rattle.record_codec.specs.Spelling.{IsKeptRow}
use Rattle.record_codec.proofs.fields.put_rows.Given as goal

abbrev pub invariant-loop-uid : goal.invariant-loop-uid
invariant-loop-uid l = record {
  wrote : l.out.items ≡ l.fn.out.items ++ flat_map row_field (take l.uid-index l.rows);
  kept : AllByRecursion IsKeptRow (take l.uid-index l.rows);
}
