use Rattle.std.proofs.Common.{◌≡◌, take}
use Rattle.qresync_core.specs.Behind.{closed_len}
use Rattle.qresync_core.proofs.behind.closed_len.Given as goal

abbrev pub invariant-loop-place : goal.invariant-loop-place
invariant-loop-place l = l.len ≡ closed_len (take l.place l.told)
