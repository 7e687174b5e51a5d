use Rattle.std.proofs.Common.{◌≡◌, length}
use Rattle.server_mem.specs.Checks as checks
use Rattle.server_mem.proofs.well_formed.all_gone_fit.Given as goal

abbrev pub invariant-loop-one : goal.invariant-loop-one
invariant-loop-one l = checks.all_gone_fit l.messages l.next l.highest l.gone ≡ checks.all_gone_fit l.messages l.next l.highest l.rest

abbrev pub decreases-loop-one : goal.decreases-loop-one
decreases-loop-one l = length l.rest
