use Rattle.std.proofs.Common.{◌≡◌, take}
use Rattle.flag_set.specs.FlagText.{list_text}
use Rattle.flag_set.proofs.key_runs.joined.Given as goal

abbrev pub invariant-loop-at : goal.invariant-loop-at
invariant-loop-at l = l.text.items ≡ list_text (take l.at l.keys)
