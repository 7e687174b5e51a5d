use Rattle.std.proofs.Common.{length}
use Rattle.qresync_core.proofs.gone.+told_gone.Given as goal

abbrev pub decreases-told_gone : goal.decreases-told_gone
decreases-told_gone l = length l.told.now
