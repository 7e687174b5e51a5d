-- The law, by its lemma.
use Rattle.qresync_core.proofs.Replying.{fetch_box}
use Rattle.qresync_core.proofs.laws.fetch_has_box.Goals as goal

pub returns : goal.returns
returns c = fetch_box
