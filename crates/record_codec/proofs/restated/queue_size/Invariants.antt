use Rattle.std.proofs.Common.{◌≡◌, ◌-◌, ◌^◌, min, take}
use Rattle.std.specs.Prelude.{sum_by}
use Rattle.record_codec.specs.Restated.{queued_size}
use Rattle.record_codec.proofs.restated.queue_size.Given as goal

abbrev pub invariant-loop-queued : goal.invariant-loop-queued
invariant-loop-queued l = l.size ≡ min (sum_by queued_size (take l.queued-index l.queue)) (2 ^ 64 - 1)
