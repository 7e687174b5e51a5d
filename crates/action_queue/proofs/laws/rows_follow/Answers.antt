use Rattle.action_queue.proofs.Anew.{rows_follow}
use Rattle.action_queue.proofs.laws.rows_follow.Goals as goal

pub returns : goal.returns
returns c = rows_follow
