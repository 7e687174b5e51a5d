use Rattle.std.proofs.Common.{◌≡◌, List, ℕ, length}
use Rattle.flag_set.specs.FlagSet.{IsFlagSet}
use Rattle.flag_set.specs.FlagText.{list_text}
use Rattle.command_texts.proofs.FlagReading.{Reads}
use Rattle.command_texts.proofs.reading.flags.flags_of.Given as goal

abbrev pub invariant-loop-left : goal.invariant-loop-left
invariant-loop-left l = (keys : List (List ℕ)) → IsFlagSet keys → l.fn.text ≡ list_text keys → Reads keys l.set l.left

abbrev pub decreases-loop-left : goal.decreases-loop-left
decreases-loop-left l = length l.left
