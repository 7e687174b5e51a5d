-- What is left decides.
use Rattle.std.proofs.Common.{length}
use Rattle.action_queue.specs.Writable.{HaveFewFlags}
use Rattle.talk_cases.proofs.player_book.have_few_flags.Given as goal

abbrev pub invariant-loop-pair : goal.invariant-loop-pair
invariant-loop-pair l = HaveFewFlags l.rest → HaveFewFlags l.rows

abbrev pub decreases-loop-pair : goal.decreases-loop-pair
decreases-loop-pair l = length l.rest
