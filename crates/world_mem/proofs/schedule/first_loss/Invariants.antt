use Rattle.std.proofs.Common.{◌≡◌, drop}
use Rattle.world_mem.specs.Planned.{loss_in}
use Rattle.world_mem.proofs.schedule.first_loss.Given as goal

abbrev pub invariant-loop-number : goal.invariant-loop-number
invariant-loop-number l = loss_in (drop l.number-index l.losses) l.call ≡ loss_in l.losses l.call
