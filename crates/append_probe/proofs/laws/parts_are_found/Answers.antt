-- The law, by its lemma.
use Rattle.append_probe.proofs.Parting.{part_found}
use Rattle.append_probe.proofs.laws.parts_are_found.Goals as goal

pub returns : goal.returns
returns c = part_found
