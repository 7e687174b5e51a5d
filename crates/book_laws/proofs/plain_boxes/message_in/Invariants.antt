-- What is left decides.
use Rattle.std.proofs.Common.{◌≡◌, length}
use Rattle.imap_model.specs.Lookups.{message_at}
use Rattle.book_laws.proofs.plain_boxes.message_in.Given as goal

abbrev pub invariant-loop-message : goal.invariant-loop-message
invariant-loop-message l = message_at l.uid l.messages ≡ message_at l.uid l.rest

abbrev pub decreases-loop-message : goal.decreases-loop-message
decreases-loop-message l = length l.rest
