use Rattle.std.proofs.Common.{◌≡◌, length}
use Rattle.server_mem.specs.Checks as checks
use Rattle.server_mem.proofs.well_formed.messages_fit.Given as goal

abbrev pub invariant-loop-message : goal.invariant-loop-message
invariant-loop-message l = checks.messages_fit 0 l.next l.highest l.messages ≡ checks.messages_fit l.low l.next l.highest l.rest

abbrev pub decreases-loop-message : goal.decreases-loop-message
decreases-loop-message l = length l.rest
