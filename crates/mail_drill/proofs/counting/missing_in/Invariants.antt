-- The count so far, and that of what is left, are the whole count.
use Rattle.std.proofs.Common.{◌≡◌, ◌+◌, ◌≤◌, drop}
use Rattle.mail_drill.specs.Counted.{how_many, is_missing, missing_in}
use Rattle.mail_drill.proofs.counting.missing_in.Given as goal

abbrev pub invariant-loop-place : goal.invariant-loop-place
invariant-loop-place l = record {
  counted : l.count + how_many (is_missing l.history) l.place (drop l.place l.queue.items) ≡ missing_in l.queue.items l.history;
  within : l.count ≤ l.place;
}
