-- The rows, and what is aside behind them, are the whole; and there is room for it.
use Rattle.std.proofs.Common.{◌≡◌, ◌≤◌, ◌+◌, ◌++◌, reverse, vec_len, vec_capacity}
use Rattle.mailbox_cache.proofs.merge.set_aside.Given as goal

abbrev pub invariant-loop-rows : goal.invariant-loop-rows
invariant-loop-rows l = record {
  joined : l.rows.items ++ reverse l.aside.items ≡ l.initial.rows.items ++ reverse l.initial.aside.items;
  within : l.place ≤ vec_len l.rows;
  len : vec_len l.rows + vec_len l.aside ≡ vec_len l.initial.rows + vec_len l.initial.aside;
  capacity : vec_capacity l.aside ≡ vec_capacity l.initial.aside;
}

abbrev pub decreases-loop-rows : goal.decreases-loop-rows
decreases-loop-rows l = vec_len l.rows
