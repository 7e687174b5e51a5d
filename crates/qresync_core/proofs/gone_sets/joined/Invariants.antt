-- The UIDs so far are those of the sets so far.
use Rattle.std.proofs.Common.{◌≡◌, ℕ, take}
use Rattle.mailbox_cache.specs.Rows.{has_uid}
use Rattle.qresync_core.specs.SetsTold.{all_ranges}
use Rattle.qresync_core.proofs.gone_sets.joined.Given as goal

abbrev pub invariant-loop-lines : goal.invariant-loop-lines
invariant-loop-lines l = (uid : ℕ) → has_uid l.gone uid ≡ has_uid (all_ranges (take l.lines-index l.sets)) uid
