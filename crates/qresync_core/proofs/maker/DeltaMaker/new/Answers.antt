use Rattle.std.proofs.Common.{[], sym, subst}
use Rattle.qresync_core.specs.Making.{StandsFor}
use Rattle.qresync_core.specs.declared.maker.DeltaMaker.{DeltaMaker}
use Rattle.qresync_core.proofs.MakerStands.{stands_first}
use Rattle.qresync_core.proofs.maker.DeltaMaker.new.Goals as goal

pub returns : goal.returns
returns c = subst (λ (made : DeltaMaker). StandsFor made []) (sym c.anew.ensures) stands_first
