-- The law, by its lemma.
use Rattle.append_probe.proofs.Lawful.{counts_right}
use Rattle.append_probe.proofs.laws.verdict_counts.Goals as goal

pub returns : goal.returns
returns c = counts_right
