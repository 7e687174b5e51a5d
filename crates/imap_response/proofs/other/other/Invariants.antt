use Rattle.std.proofs.Common.{◌≡◌, ◌-◌}
use Rattle.imap_response.specs.Left.{left_of}
use Rattle.imap_response.specs.ReadLines.{other_from, other_at}
use Rattle.imap_response.proofs.other.other.Given as goal

abbrev pub invariant-loop : goal.invariant-loop
invariant-loop l = other_from (l.end - l.counter) l.last (left_of l.rest) ≡ other_at (left_of l.fn.rest)
