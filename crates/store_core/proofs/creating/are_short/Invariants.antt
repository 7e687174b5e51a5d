use Rattle.std.proofs.Common.{take}
use Rattle.std.specs.List.{AllByRecursion}
use Rattle.mail_base.specs.BoxName.{IsBoxName}
use Rattle.store_core.proofs.creating.are_short.Given as goal

abbrev pub invariant-loop-name : goal.invariant-loop-name
invariant-loop-name l = AllByRecursion IsBoxName (take l.name-index l.names)
