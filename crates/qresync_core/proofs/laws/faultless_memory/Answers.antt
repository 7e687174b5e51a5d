-- The law, by its lemma.
use Rattle.qresync_core.proofs.Judging.{memory_alone}
use Rattle.qresync_core.proofs.laws.faultless_memory.Goals as goal

pub returns : goal.returns
returns c = memory_alone
