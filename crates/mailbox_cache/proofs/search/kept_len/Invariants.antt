-- The count so far, and that of what is left, are the whole count.
use Rattle.std.proofs.Common.{◌≡◌, ◌+◌, ◌≤◌, length, drop}
use Rattle.mailbox_cache.specs.Rows.{without_uids}
use Rattle.mailbox_cache.proofs.search.kept_len.Given as goal

abbrev pub invariant-loop-uid : goal.invariant-loop-uid
invariant-loop-uid l = record {
  counted : l.count + length (without_uids l.vanished (drop l.uid-index l.rows)) ≡ length (without_uids l.vanished l.rows);
  within : l.count ≤ l.uid-index;
}
