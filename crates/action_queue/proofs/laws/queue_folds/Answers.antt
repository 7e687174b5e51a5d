use Rattle.action_queue.proofs.Anew.{queue_folds}
use Rattle.action_queue.proofs.laws.queue_folds.Goals as goal

pub returns : goal.returns
returns c = queue_folds
