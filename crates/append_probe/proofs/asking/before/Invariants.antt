-- What was passed is in front of the mark.
use Rattle.std.proofs.Common.{◌≡◌, ◌++◌, drop, take}
use Rattle.append_probe.specs.Question as spec
use Rattle.append_probe.proofs.asking.before.Given as goal

abbrev pub invariant-loop-at : goal.invariant-loop-at
invariant-loop-at l = spec.before l.mark l.bytes ≡ take l.at l.bytes ++ spec.before l.mark (drop l.at l.bytes)
