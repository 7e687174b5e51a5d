use Rattle.std.proofs.Common.{◌≡◌, ◌++◌, take}
use Rattle.journal_core.specs.Records.{records}
use Rattle.journal_core.specs.Sides.{header_of, version_written}
use Rattle.journal_core.proofs.creating.side_bytes.Given as goal

abbrev pub invariant-loop-body : goal.invariant-loop-body
invariant-loop-body l = l.bytes.items ≡ header_of version_written l.generation ++ records (take l.body-index l.bodies)
