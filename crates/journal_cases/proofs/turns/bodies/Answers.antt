use Rattle.journal_cases.proofs.FullBodies.{none_yet}
use Rattle.journal_cases.proofs.turns.bodies.Goals as goal

pub loop-init : goal.loop-init
loop-init c = none_yet _ c.new-bodies.ensures.items
