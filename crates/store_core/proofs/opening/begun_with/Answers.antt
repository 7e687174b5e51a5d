use Rattle.std.proofs.Common.{subst}
use Rattle.action_queue.specs.Writable.{IsWritable}
use Rattle.store_core.proofs.Folds.{made_first}
use Rattle.store_core.proofs.opening.begun_with.Goals as goal

pub returns-clause-made : goal.returns-clause-made
returns-clause-made c version = made_first version _ c.in-Begin.names c.in_ok-book.ensures (subst IsWritable c.in-Begin.is c.requires)
