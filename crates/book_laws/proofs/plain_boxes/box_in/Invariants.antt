-- What is left decides.
use Rattle.std.proofs.Common.{◌≡◌, length}
use Rattle.imap_model.specs.Lookups.{box_at}
use Rattle.book_laws.proofs.plain_boxes.box_in.Given as goal

abbrev pub invariant-loop-mailbox : goal.invariant-loop-mailbox
invariant-loop-mailbox l = box_at l.name l.boxes ≡ box_at l.name l.rest

abbrev pub decreases-loop-mailbox : goal.decreases-loop-mailbox
decreases-loop-mailbox l = length l.rest
