-- The law, by its lemma.
use Rattle.qresync_core.proofs.Leveling.{kept_judged, kept_levels}
use Rattle.qresync_core.proofs.laws.kept_levels.Goals as goal
use Rattle.qresync_core.specs.Laws.{codes_of_box}

pub returns : goal.returns
returns c = λ name cache box selected answers same fresh.
    ((codes_of_box box, kept_judged name cache box selected answers same fresh), kept_levels name cache box selected answers same fresh)
