use Rattle.std.proofs.Common.{length}
use Rattle.append_probe.proofs.finding.+found_in.Given as goal

abbrev pub decreases-found_in : goal.decreases-found_in
decreases-found_in l = length l.told.now
