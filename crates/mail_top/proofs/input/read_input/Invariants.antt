use Rattle.std.proofs.Common.{◌≡◌, ◌≤◌, ◌-◌, ◌++◌, length}
use Rattle.mail_top.proofs.input.read_input.Given as goal

abbrev pub invariant-loop-piece : goal.invariant-loop-piece
invariant-loop-piece g l = record {
  taken : g.I.Source.tells → g.I.Source.rest l.fn.input ≡ l.given.items ++ g.I.Source.rest l.input;
  most : length l.given.items ≤ 33554433;
  faults : g.I.Source.source_faults l.fn.input ≤ g.I.Source.source_faults l.input;
}

abbrev pub decreases-loop-piece : goal.decreases-loop-piece
decreases-loop-piece g l = 33554433 - length l.given.items
