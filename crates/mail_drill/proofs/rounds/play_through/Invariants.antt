-- The rounds so far were played, and a book that was to be played on at entry is so still.
use Rattle.action_queue.specs.Book.{Meaning}
use Rattle.mail_drill.specs.Held.{Plays}
use Rattle.mail_drill.specs.Standing.{PlaysOn}
use Rattle.mail_drill.proofs.rounds.play_through.Given as goal

abbrev pub invariant-loop-round : goal.invariant-loop-round
invariant-loop-round l = record {
  played : Plays l.fn.world.value.world l.fn.draws l.round l.draws l.pick l.world.value.world;
  plays_on : (b : Meaning) → PlaysOn b l.fn.world.value → PlaysOn b l.world.value;
}
