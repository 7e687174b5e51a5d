-- Nothing is put and nothing taken away.
use Rattle.qresync_core.proofs.OneDelta.{untouched}
use Rattle.qresync_core.proofs.laws.nothing_stays.Goals as goal

pub returns : goal.returns
returns c = untouched
