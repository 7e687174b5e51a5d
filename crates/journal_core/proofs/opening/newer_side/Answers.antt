use Rattle.world_traits.specs.declared.disk.Side.TheVariants.{Left, Right}
use Rattle.std.proofs.Common.{arith}
use Rattle.journal_core.proofs.Choice.{higher, first_is}
use Rattle.journal_core.proofs.opening.newer_side.Goals as goal

pub returns-then-right-left-clause-value : goal.returns-then-right-left-clause-value
returns-then-right-left-clause-value c files l r = first_is Left _ _ files _ c.before_records.ensures (higher Left _ _ _ _ files l r c.if-right-left.true)

pub returns-clause-value : goal.returns-clause-value
returns-clause-value c files l r = first_is Right _ _ files _ c.before_records-2.ensures
    (higher Right _ _ _ _ files r l (omega (arith, c.if-left-right.false, c.if-right-left.false)))
