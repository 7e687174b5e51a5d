-- What is left decides, and else the last one so far.
use Rattle.std.proofs.Common.{length, ◌≡◌}
use Rattle.std.specs.Option.{option_copied, option_or}
use Rattle.playback.specs.Replying.{last_copied}
use Rattle.playback.proofs.reply_effects.last_copied.Given as goal

abbrev pub invariant-loop-response : goal.invariant-loop-response
invariant-loop-response l = last_copied l.told l.completion ≡ option_or (last_copied l.rest l.completion) (option_copied l.last)

abbrev pub decreases-loop-response : goal.decreases-loop-response
decreases-loop-response l = length l.rest
