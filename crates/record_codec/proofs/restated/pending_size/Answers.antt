-- A record where one is pending.
use Rattle.record_codec.proofs.RestatedSizes.{pending_none, pending_some}
use Rattle.record_codec.proofs.restated.pending_size.Goals as goal

pub returns-in-None-clause-value : goal.returns-in-None-clause-value
returns-in-None-clause-value c = pending_none c.args.book.now.pending c.args.book.now.queue.items c.in-None.is

pub returns-in-Some-clause-value : goal.returns-in-Some-clause-value
returns-in-Some-clause-value c =
    pending_some c.args.book.now.pending c.args.book.now.queue.items _ _ c.in-Some.is c.intent_size.ensures.value
