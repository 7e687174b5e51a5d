use Rattle.std.proofs.Common.{◌≡◌, ◌-◌}
use Rattle.imap_response.specs.Left.{left_of}
use Rattle.imap_response.specs.ReadValues.{section_from, section_at}
use Rattle.imap_response.proofs.values.section.Given as goal

abbrev pub invariant-loop : goal.invariant-loop
invariant-loop l = section_from (l.end - l.counter) (left_of l.rest) ≡ section_at (left_of l.fn.rest)
