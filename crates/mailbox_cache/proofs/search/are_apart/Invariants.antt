-- Rows apart from what is left are apart from all.
use Rattle.std.proofs.Common.{drop}
use Rattle.mailbox_cache.specs.Rows.{AreApart}
use Rattle.mailbox_cache.proofs.search.are_apart.Given as goal

abbrev pub invariant-loop-range : goal.invariant-loop-range
invariant-loop-range l = AreApart (drop l.range-index l.ranges) l.rows → AreApart l.ranges l.rows
