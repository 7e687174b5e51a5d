-- What is left, put into the rows, and what is aside behind them, are the whole; and there is room for it.
use Rattle.std.proofs.Common.{◌≡◌, ◌≤◌, ◌+◌, ◌++◌, reverse, vec_len, vec_capacity}
use Rattle.mailbox_cache.specs.Rows.{put_rows, Rises}
use Rattle.mailbox_cache.proofs.merge.put_aside.Given as goal

abbrev pub invariant-loop-row : goal.invariant-loop-row
invariant-loop-row l = record {
  joined : put_rows l.new.items l.rows.items ++ reverse l.aside.items ≡ put_rows l.initial.new.items l.initial.rows.items ++ reverse l.initial.aside.items;
  rising : Rises l.rows.items;
  told : Rises l.new.items;
  room : vec_len l.rows + vec_len l.aside + vec_len l.new ≤ vec_capacity l.aside;
}

abbrev pub decreases-loop-row : goal.decreases-loop-row
decreases-loop-row l = vec_len l.new
