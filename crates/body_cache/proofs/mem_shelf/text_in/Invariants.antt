-- The text stands in what is left.
use Rattle.std.proofs.Common.{◌≡◌, drop}
use Rattle.body_cache.specs.Shelf.{text_at}
use Rattle.body_cache.proofs.mem_shelf.text_in.Given as goal

abbrev pub invariant-loop-kept : goal.invariant-loop-kept
invariant-loop-kept l = text_at l.key (drop l.kept-index l.texts) ≡ text_at l.key l.texts
