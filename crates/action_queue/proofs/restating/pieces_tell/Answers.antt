use Rattle.action_queue.proofs.Told.{pieces_tell}
use Rattle.action_queue.proofs.restating.pieces_tell.Goals as goal

pub returns : goal.returns
returns c = pieces_tell
