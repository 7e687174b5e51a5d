-- The rows, and what is still aside behind them, are the whole; and there is room for it.
use Rattle.std.proofs.Common.{◌≡◌, ◌≤◌, ◌+◌, ◌++◌, reverse, vec_len, vec_capacity}
use Rattle.mailbox_cache.proofs.merge.brought_back.Given as goal

abbrev pub invariant-loop-row : goal.invariant-loop-row
invariant-loop-row l = record {
  joined : l.rows.items ++ reverse l.aside.items ≡ l.initial.rows.items ++ reverse l.initial.aside.items;
  room : vec_len l.rows + vec_len l.aside ≤ vec_capacity l.rows;
}

abbrev pub decreases-loop-row : goal.decreases-loop-row
decreases-loop-row l = vec_len l.aside
