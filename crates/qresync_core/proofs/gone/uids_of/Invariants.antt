-- The UIDs so far are those of the rows so far.
use Rattle.std.proofs.Common.{◌≡◌, ℕ, take}
use Rattle.std.specs.Prelude.{is_some}
use Rattle.mailbox_cache.specs.Rows.{row_at, has_uid}
use Rattle.qresync_core.proofs.gone.uids_of.Given as goal

abbrev pub invariant-loop-uid : goal.invariant-loop-uid
invariant-loop-uid l = (uid : ℕ) → has_uid l.uids uid ≡ is_some (row_at uid (take l.uid-index l.rows))
