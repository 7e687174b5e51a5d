-- What waits, and what ended.
use Rattle.record_codec.proofs.RestatedSizes.{queued_none, queued_some}
use Rattle.record_codec.proofs.restated.queued_size.Goals as goal

pub returns-in-None : goal.returns-in-None
returns-in-None c = queued_none c.args.queued.now _ c.in-None.is c.action_size.ensures.value

pub returns-in-Some : goal.returns-in-Some
returns-in-Some c = queued_some c.args.queued.now _ _ c.in-Some.is c.old_size.ensures.value
