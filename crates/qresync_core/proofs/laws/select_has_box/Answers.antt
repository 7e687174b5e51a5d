-- The law, by its lemma.
use Rattle.qresync_core.proofs.Replying.{select_box}
use Rattle.qresync_core.proofs.laws.select_has_box.Goals as goal

pub returns : goal.returns
returns c = select_box
