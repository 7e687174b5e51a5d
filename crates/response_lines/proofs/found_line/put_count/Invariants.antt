use Rattle.std.proofs.Common.{◌≡◌}
use Rattle.response_lines.specs.LineTexts.{◌⌢◌, count_text}
use Rattle.response_lines.proofs.found_line.put_count.Given as goal

abbrev pub invariant-loop-step : goal.invariant-loop-step
invariant-loop-step l = l.out.items ≡ l.initial.out.items ⌢ count_text l.least l.step
