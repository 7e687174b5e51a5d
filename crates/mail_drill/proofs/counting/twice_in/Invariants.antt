-- The count so far, and that of what is left, are the whole count.
use Rattle.std.proofs.Common.{◌≡◌, ◌+◌, ◌≤◌, drop}
use Rattle.mail_drill.specs.Counted.{how_many, is_twice, twice_in}
use Rattle.mail_drill.proofs.counting.twice_in.Given as goal

abbrev pub invariant-loop-place : goal.invariant-loop-place
invariant-loop-place l = record {
  counted : l.count + how_many (is_twice l.history) l.place (drop l.place l.queue.items) ≡ twice_in l.queue.items l.history;
  within : l.count ≤ l.place;
}
