-- The law, by its lemma.
use Rattle.qresync_core.proofs.Leveling.{facts_later}
use Rattle.qresync_core.proofs.laws.facts_go_on.Goals as goal

pub returns : goal.returns
returns c = facts_later
