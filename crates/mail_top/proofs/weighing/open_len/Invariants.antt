-- The count so far, and that of what is left, are the whole count.
use Rattle.std.proofs.Common.{◌≡◌, ◌+◌, ◌≤◌, drop}
use Rattle.mail_top.specs.Reasons.{open_len}
use Rattle.mail_top.proofs.weighing.open_len.Given as goal

abbrev pub invariant-loop-queued : goal.invariant-loop-queued
invariant-loop-queued l = record {
  counted : l.count + open_len (drop l.queued-index l.queue) ≡ open_len l.queue;
  within : l.count ≤ l.queued-index;
}
