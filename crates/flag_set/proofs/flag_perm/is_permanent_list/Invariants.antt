use Rattle.std.proofs.Common.{◌≡◌}
use Rattle.std.specs.Prelude.{◌||◌}
use Rattle.std.specs.List.{list_all}
use Rattle.std.specs.Option.{option_copied}
use Rattle.flag_set.specs.Flag.{is_flag}
use Rattle.flag_set.specs.FlagList.{flags_of, is_any, pieces_left}
use Rattle.flag_set.proofs.Faults.{left_len}
use Rattle.flag_set.proofs.flag_perm.is_permanent_list.Given as goal

abbrev pub invariant-loop-left : goal.invariant-loop-left
invariant-loop-left l = list_all (λ flag. is_any flag || is_flag flag) (pieces_left (option_copied l.left))
    ≡ list_all (λ flag. is_any flag || is_flag flag) (flags_of l.text)

abbrev pub decreases-loop-left : goal.decreases-loop-left
decreases-loop-left l = left_len (option_copied l.left)
