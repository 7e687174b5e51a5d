-- One action more.
use Rattle.record_codec.proofs.RestatedSizes.{queued_more, writable_at}
use Rattle.record_codec.proofs.restated.queue_size.Goals as goal

pub queued_size-requires : goal.queued_size-requires
queued_size-requires c =
    writable_at c.args.queue.now c.loop-queued.queued-index c.queued-item.result c.requires c.loop-queued-test.true c.queued-item.is

pub loop-queued-preserved : goal.loop-queued-preserved
loop-queued-preserved c =
    queued_more c.args.queue.now c.loop-queued.queued-index c.queued-item.result _ _ _ c.loop-queued-test.true c.queued-item.is
    c.loop-queued.invariant c.queued_size.ensures c.saturating_add-size.ensures
