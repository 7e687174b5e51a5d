-- The law, by its lemma.
use Rattle.qresync_core.proofs.OneDelta.{one_delta}
use Rattle.qresync_core.proofs.laws.one_delta.Goals as goal

pub returns : goal.returns
returns c = one_delta
