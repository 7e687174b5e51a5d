-- What is found, or else what is found in what is left.
use Rattle.std.proofs.Common.{◌≡◌, length}
use Rattle.std.specs.Option.{option_map, option_or}
use Rattle.append_probe.specs.Question as spec
use Rattle.append_probe.proofs.asking.behind.Given as goal

abbrev pub invariant-loop-next : goal.invariant-loop-next
invariant-loop-next l = spec.behind l.mark l.bytes ≡ option_or (spec.behind l.mark l.rest) (option_map (λ rest. rest.now) l.found)

abbrev pub decreases-loop-next : goal.decreases-loop-next
decreases-loop-next l = length l.rest
