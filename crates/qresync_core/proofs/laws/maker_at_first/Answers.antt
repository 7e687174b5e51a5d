use Rattle.qresync_core.proofs.MakerStands.{stands_first}
use Rattle.qresync_core.proofs.laws.maker_at_first.Goals as goal

pub returns : goal.returns
returns c = stands_first
