use Rattle.std.proofs.Common.{◌≡◌, take}
use Rattle.response_lines.specs.LineTexts.{◌⌢◌, members_text}
use Rattle.response_lines.proofs.found_line.put_members.Given as goal

abbrev pub invariant-loop-range : goal.invariant-loop-range
invariant-loop-range l = l.out.items ≡ l.initial.out.items ⌢ members_text (take l.range-index l.ranges)
