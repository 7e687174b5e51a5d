use Rattle.std.proofs.Common.{◌≡◌, ◌-◌, [], length}
use Rattle.imap_response.specs.Left.{left_of}
use Rattle.imap_response.specs.ReadSearches.{pairs_from}
use Rattle.imap_response.proofs.search.pairs.Given as goal

abbrev pub invariant-loop : goal.invariant-loop
invariant-loop l = pairs_from (l.end - l.counter) l.set (left_of l.rest) ≡ pairs_from (length l.fn.rest.text.now) [] (left_of l.fn.rest)
