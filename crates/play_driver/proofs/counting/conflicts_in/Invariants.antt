use Rattle.std.proofs.Common.{◌≡◌, ◌≤◌, None, sum_by, take}
use Rattle.action_queue.specs.declared.queued.Queued.{Queued}
use Rattle.play_driver.specs.Counted.{conflicts_of, counts_of}
use Rattle.play_driver.proofs.counting.conflicts_in.Given as goal

abbrev pub invariant-loop-queued : goal.invariant-loop-queued
invariant-loop-queued l = record {
  ended : l.conflicts ≡ sum_by (λ (q : Queued). counts_of conflicts_of None q.outcome) (take l.queued-index l.actions);
  most : l.conflicts ≤ l.queued-index;
}
