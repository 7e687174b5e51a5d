-- The law, by its lemma.
use Rattle.qresync_core.proofs.Leveling.{fresh_later}
use Rattle.qresync_core.proofs.laws.fresh_goes_on.Goals as goal

pub returns : goal.returns
returns c = fresh_later
