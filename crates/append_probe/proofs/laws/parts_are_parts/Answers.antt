-- The law, by its lemma.
use Rattle.append_probe.proofs.Parting.{part_is}
use Rattle.append_probe.proofs.laws.parts_are_parts.Goals as goal

pub returns : goal.returns
returns c = part_is
