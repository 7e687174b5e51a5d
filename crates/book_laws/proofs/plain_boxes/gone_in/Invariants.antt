-- What is left decides.
use Rattle.std.proofs.Common.{◌≡◌, length}
use Rattle.imap_model.specs.Lookups.{gone_at}
use Rattle.book_laws.proofs.plain_boxes.gone_in.Given as goal

abbrev pub invariant-loop-one : goal.invariant-loop-one
invariant-loop-one l = gone_at l.uid l.gone ≡ gone_at l.uid l.rest

abbrev pub decreases-loop-one : goal.decreases-loop-one
decreases-loop-one l = length l.rest
