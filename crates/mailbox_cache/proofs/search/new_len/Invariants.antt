-- The count so far, and that of what is left, are the whole count.
use Rattle.std.proofs.Common.{◌≡◌, ◌+◌, ◌≤◌, drop}
use Rattle.mailbox_cache.specs.Rows.{strangers}
use Rattle.mailbox_cache.proofs.search.new_len.Given as goal

abbrev pub invariant-loop-uid : goal.invariant-loop-uid
invariant-loop-uid l = record {
  counted : l.count + strangers (drop l.uid-index l.new) l.rows ≡ strangers l.new l.rows;
  within : l.count ≤ l.uid-index;
}
