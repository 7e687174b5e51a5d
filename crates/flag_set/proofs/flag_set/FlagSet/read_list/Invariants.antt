use Rattle.std.proofs.Common.{◌≡◌, ◌≤◌, [], fold, length}
use Rattle.std.specs.Option.{option_copied}
use Rattle.flag_set.specs.declared.flag_fault.TheConstants.{MAX_FLAGS}
use Rattle.flag_set.specs.FlagList.{fault_behind, flags_of, pieces_left, set_of, with_flag}
use Rattle.flag_set.proofs.Faults.{left_len}
use Rattle.flag_set.proofs.flag_set.FlagSet.read_list.Given as goal

abbrev pub invariant-loop-left : goal.invariant-loop-left
invariant-loop-left l = record {
  short : length l.set ≤ MAX_FLAGS;
  keys : fold with_flag l.set (pieces_left (option_copied l.left)) ≡ set_of (flags_of l.text);
  faults : fault_behind l.set (pieces_left (option_copied l.left)) ≡ fault_behind [] (flags_of l.text);
}

abbrev pub decreases-loop-left : goal.decreases-loop-left
decreases-loop-left l = left_len (option_copied l.left)
