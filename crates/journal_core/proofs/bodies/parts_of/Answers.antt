use Rattle.std.proofs.Common.{arith, refl}
use Rattle.journal_core.proofs.Few.{stand_none, part_more, stand_from}
use Rattle.journal_core.proofs.bodies.parts_of.Goals as goal

pub loop-size-init : goal.loop-size-init
loop-size-init c = stand_none c.args.piece.now _ c.new-parts.ensures.items c.requires

pub loop-size-preserved : goal.loop-size-preserved
loop-size-preserved c = part_more c.args.piece.now _ _ _ _ _ _ c.loop-size.invariant c.in-Some.ensures.whole c.in_ok-push.ensures.items refl (omega arith)

pub returns-clause-stand : goal.returns-clause-stand
returns-clause-stand c = stand_from _ _ _ c.loop-size.invariant
