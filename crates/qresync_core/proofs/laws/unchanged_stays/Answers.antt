-- The law, by its lemma.
use Rattle.qresync_core.proofs.Leveling.{unchanged}
use Rattle.qresync_core.proofs.laws.unchanged_stays.Goals as goal

pub returns : goal.returns
returns c = unchanged
