use Rattle.std.proofs.Common.{◌≡◌, length}
use Rattle.server_mem.specs.Checks as checks
use Rattle.server_mem.proofs.well_formed.boxes_fit.Given as goal

abbrev pub invariant-loop-mailbox : goal.invariant-loop-mailbox
invariant-loop-mailbox l = checks.boxes_fit l.boxes ≡ checks.boxes_fit l.rest

abbrev pub decreases-loop-mailbox : goal.decreases-loop-mailbox
decreases-loop-mailbox l = length l.rest
