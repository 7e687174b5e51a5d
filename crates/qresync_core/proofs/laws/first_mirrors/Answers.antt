-- The law, by its lemma.
use Rattle.qresync_core.proofs.Leveling.{first_judged, first_mirrors}
use Rattle.qresync_core.proofs.laws.first_mirrors.Goals as goal
use Rattle.qresync_core.specs.Laws.{codes_of_box}

pub returns : goal.returns
returns c = λ name since box later selected all answers fetched same higher. (
  (codes_of_box box, first_judged name since box later selected all answers fetched),
  first_mirrors name since box later selected all answers fetched same higher,
)
