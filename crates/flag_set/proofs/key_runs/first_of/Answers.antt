use Rattle.flag_set.proofs.Merge.{first_left, first_both}
use Rattle.flag_set.proofs.key_runs.first_of.Goals as goal

pub returns-in-Some-None-clause-first : goal.returns-in-Some-None-clause-first
returns-in-Some-None-clause-first c = first_left _ _ _ c.requires.left_rises c.in-Some-None.ensures.value c.in-Some-None.ensures'.value

pub returns-in-Some-Some-clause-first : goal.returns-in-Some-Some-clause-first
returns-in-Some-Some-clause-first c =
    first_both _ _ _ _ _ _ _ c.requires.left_rises c.requires.right_rises c.in-Some-Some.ensures.value c.in-Some-Some.ensures'.value c.lower_of.ensures
