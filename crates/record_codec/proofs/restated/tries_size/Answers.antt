-- A record where some were taken back.
use Rattle.std.proofs.Common.{arith}
use Rattle.record_codec.proofs.RestatedSizes.{tries_none, tries_some}
use Rattle.record_codec.proofs.restated.tries_size.Goals as goal

pub returns-then-tries_due-eq0-clause-value : goal.returns-then-tries_due-eq0-clause-value
returns-then-tries_due-eq0-clause-value c =
    tries_none c.args.book.now.queue.items c.tries_due.result c.tries_due.ensures c.if-tries_due-eq0.true

pub returns-clause-value : goal.returns-clause-value
returns-clause-value c = tries_some c.args.book.now.queue.items c.tries_due.result c.tries_due.ensures (omega arith)
