-- What the sets are together stays, and they become fewer.
use Rattle.std.proofs.Common.{◌≡◌, ℕ, length}
use Rattle.mailbox_cache.specs.Rows.{has_uid}
use Rattle.qresync_core.specs.SetsTold.{all_ranges}
use Rattle.qresync_core.proofs.gone_sets.join_last.Given as goal

abbrev pub invariant-loop-both : goal.invariant-loop-both
invariant-loop-both l = (uid : ℕ) → has_uid (all_ranges l.sets.items) uid ≡ has_uid (all_ranges l.initial.sets.items) uid

abbrev pub decreases-loop-both : goal.decreases-loop-both
decreases-loop-both l = length l.sets.items
