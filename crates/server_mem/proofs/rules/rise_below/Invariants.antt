use Rattle.std.proofs.Common.{◌≡◌, length}
use Rattle.imap_model.specs.Lawful as rules
use Rattle.server_mem.proofs.rules.rise_below.Given as goal

abbrev pub invariant-loop-uid : goal.invariant-loop-uid
invariant-loop-uid l = rules.rise_below 1 l.below l.uids ≡ rules.rise_below l.from l.below l.rest

abbrev pub decreases-loop-uid : goal.decreases-loop-uid
decreases-loop-uid l = length l.rest
