use Rattle.uid_sets.proofs.Ranges.{one_form}
use Rattle.uid_sets.proofs.uid_set.one_form.Goals as goal

pub returns : goal.returns
returns c = λ left right rises_left rises_right same. one_form 0 left right rises_left rises_right same
