-- The book is well: its mailboxes are few, and its actions can be written.
use Rattle.action_queue.specs.Book.{meaning}
use Rattle.action_queue.specs.declared.rule.Version.TheVariants as versions
use Rattle.record_codec.proofs.RestatedSizes.{few_slice, well_slice, whole_size, writable_slice}
use Rattle.record_codec.proofs.restated.restated_size.Goals as goal

pub boxes_size-boxes-requires-clause-few : goal.boxes_size-boxes-requires-clause-few
boxes_size-boxes-requires-clause-few c = few_slice _ _ c.as_slice.ensures c.requires.names

pub boxes_size-boxes-requires-clause-well : goal.boxes_size-boxes-requires-clause-well
boxes_size-boxes-requires-clause-well c = well_slice _ _ c.as_slice.ensures c.requires.caches

pub queue_size-queue-requires : goal.queue_size-queue-requires
queue_size-queue-requires c = writable_slice versions.Second (meaning c.args.book.now) _ c.as_slice-2.ensures c.requires

pub returns : goal.returns
returns c =
    whole_size (meaning c.args.book.now) _ _ _ _ _ _ _ c.as_slice.ensures c.as_slice-2.ensures c.boxes_size-boxes.ensures.value
    c.tries_size.ensures.value c.pending_size.ensures.value c.queue_size-queue.ensures c.saturating_add.ensures
