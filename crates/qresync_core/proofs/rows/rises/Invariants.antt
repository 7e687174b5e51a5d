-- Where what is left rises above the last UID, all rises.
use Rattle.std.proofs.Common.{drop}
use Rattle.mailbox_cache.specs.Rows.{Rises, RisesAbove}
use Rattle.qresync_core.proofs.rows.rises.Given as goal

abbrev pub invariant-loop-uid : goal.invariant-loop-uid
invariant-loop-uid l = RisesAbove l.last (drop l.uid-index l.rows) → Rises l.rows
