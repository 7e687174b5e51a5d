use Rattle.std.proofs.Common.{◌≡◌, ◌≤◌, take, map, false, length}
use Rattle.std.specs.Prelude.{string_bytes}
use Rattle.std.specs.List.{list_any}
use Rattle.mail_top.specs.Actions.{keys_of}
use Rattle.mail_top.specs.Reasons.{is_bad_flag}
use Rattle.mail_top.proofs.weighing.keys_of.Given as goal

abbrev pub invariant-loop-flag : goal.invariant-loop-flag
invariant-loop-flag l = record {
  good : list_any is_bad_flag (take l.flag-index (map string_bytes l.flags)) ≡ false;
  keys : l.keys ≡ keys_of (take l.flag-index (map string_bytes l.flags));
  most : length l.keys ≤ l.flag-index;
  least : 1 ≤ l.flag-index → 1 ≤ length l.keys;
}
