use Rattle.std.proofs.Common.{◌≡◌, length}
use Rattle.imap_model.specs.Searching as searching
use Rattle.server_mem.proofs.headers.holds_part.Given as goal

abbrev pub invariant-loop-behind : goal.invariant-loop-behind
invariant-loop-behind l = searching.holds_part l.part l.text ≡ searching.holds_part l.part l.rest

abbrev pub decreases-loop-behind : goal.decreases-loop-behind
decreases-loop-behind l = length l.rest
