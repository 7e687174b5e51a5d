use Rattle.std.proofs.Common.{refl}
use Rattle.journal_core.proofs.Few.{whole_here}
use Rattle.journal_core.proofs.bodies.whole_at.Goals as goal

pub returns-in-Whole-clause-whole : goal.returns-in-Whole-clause-whole
returns-in-Whole-clause-whole c = whole_here _ _ _ _ _ c.up_to.ensures refl c.in-Whole.ensures.value
