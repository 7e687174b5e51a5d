-- The law, by its lemma.
use Rattle.qresync_core.proofs.Leveling.{empty_judged, empty_mirrors}
use Rattle.qresync_core.proofs.laws.empty_mirrors.Goals as goal
use Rattle.qresync_core.specs.Laws.{codes_of_box}

pub returns : goal.returns
returns c = λ name since box selected answers empty.
    ((codes_of_box box, empty_judged name since box selected answers empty), empty_mirrors name since box selected answers empty)
