use Rattle.std.proofs.Common.{◌≡◌, ◌++◌, take}
use Rattle.std.specs.List.{flat_map}
use Rattle.conflict_report.specs.QueueLines.{spaced}
use Rattle.conflict_report.proofs.writing.put_keys.Given as goal

abbrev pub invariant-loop-key : goal.invariant-loop-key
invariant-loop-key l = l.text.items ≡ l.fn.text.items ++ flat_map spaced (take l.key-index l.keys)
