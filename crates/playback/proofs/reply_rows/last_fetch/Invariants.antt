-- What is left decides, and else the last one so far.
use Rattle.std.proofs.Common.{length, ◌≡◌}
use Rattle.std.specs.Option.{option_copied, option_or}
use Rattle.playback.specs.Replying.{last_fetch}
use Rattle.playback.proofs.reply_rows.last_fetch.Given as goal

abbrev pub invariant-loop-response : goal.invariant-loop-response
invariant-loop-response l = last_fetch l.uid l.told ≡ option_or (last_fetch l.uid l.rest) (option_copied l.last)

abbrev pub decreases-loop-response : goal.decreases-loop-response
decreases-loop-response l = length l.rest
