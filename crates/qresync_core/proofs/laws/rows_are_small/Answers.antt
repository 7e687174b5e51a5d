-- The law, by its lemma.
use Rattle.qresync_core.proofs.SmallRows.{rows_small}
use Rattle.qresync_core.proofs.laws.rows_are_small.Goals as goal

pub returns : goal.returns
returns c = rows_small
