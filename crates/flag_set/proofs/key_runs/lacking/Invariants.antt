use Rattle.std.proofs.Common.{◌≡◌, not, take}
use Rattle.std.specs.List.{filter}
use Rattle.flag_set.specs.FlagSet.{has}
use Rattle.flag_set.proofs.key_runs.lacking.Given as goal

abbrev pub invariant-loop-key : goal.invariant-loop-key
invariant-loop-key l = l.rest.items ≡ filter (λ key. not (has l.others key)) (take l.key-index l.keys)
