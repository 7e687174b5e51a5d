use Rattle.std.proofs.Common.{◌≡◌, ◌-◌, ◌≤◌}
use Rattle.imap_response.specs.Left.{left_of}
use Rattle.imap_response.specs.ReadValues.{list_from, list_at}
use Rattle.imap_response.proofs.values.list.Given as goal

abbrev pub invariant-loop : goal.invariant-loop
invariant-loop l = record {
  deep : l.deeper ≤ l.counter;
  same : list_from (l.end - l.counter) l.deeper (left_of l.rest) ≡ list_at (left_of l.fn.rest);
}
