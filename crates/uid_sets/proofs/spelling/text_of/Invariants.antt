-- The ranges so far are written.
use Rattle.std.proofs.Common.{◌≡◌, take}
use Rattle.uid_sets.specs.Spelling.{set_text}
use Rattle.uid_sets.proofs.spelling.text_of.Given as goal

abbrev pub invariant-loop-i : goal.invariant-loop-i
invariant-loop-i l = l.text.items ≡ set_text (take l.i l.ranges)
