use Rattle.std.proofs.Common.{sym, subst}
use Rattle.flag_set.specs.FlagSet.{IsRising}
use Rattle.flag_set.proofs.Merge.{merge_step, rising_drop}
use Rattle.flag_set.proofs.key_runs.merged.Goals as goal

pub loop-first-preserved : goal.loop-first-preserved
loop-first-preserved c = record {
  whole = merge_step _ _ _ _ _ _ _ _ _ _ _ c.in-Some.ensures.first c.in_ok-copy.ensures c.in_ok-push.ensures.items c.split_at.ensures.back
      c.split_at-in-Some.ensures.back c.loop-first.invariant.whole;
  left_rises = subst IsRising (sym c.split_at.ensures.back) (rising_drop _ _ c.loop-first.invariant.left_rises);
  right_rises = subst IsRising (sym c.split_at-in-Some.ensures.back) (rising_drop _ _ c.loop-first.invariant.right_rises);
}
