use Rattle.std.proofs.Common.{◌≡◌, ◌+◌, ◌++◌, length}
use Rattle.flag_set.specs.FlagSet.{IsRising, union}
use Rattle.flag_set.proofs.key_runs.merged.Given as goal

abbrev pub invariant-loop-first : goal.invariant-loop-first
invariant-loop-first l = record {
  whole : l.keys.items ++ union l.left l.right ≡ union l.fn.left l.fn.right;
  left_rises : IsRising l.left;
  right_rises : IsRising l.right;
}

abbrev pub decreases-loop-first : goal.decreases-loop-first
decreases-loop-first l = length l.left + length l.right
